-- Words that are read run by run, where a run may begin within what has been read.
use Rattle.std.proofs.Common.{◌≡◌, ◌<◌, ◌≤◌, ◌*◌, ◌+◌, ◌%◌, ℕ, zero, suc, Bool, true, false, Some, None, Ok, List, [], ◌∷◌, ◌++◌}
use Rattle.std.proofs.Common.{nat_eq, length, take, drop, map, cond, leb, append-nil, subst, refl, sym, arith, ap, ◌∙◌}
use Rattle.std.proofs.lemmas.Bool.{eqb-true}
use Rattle.std.proofs.lemmas.List.{length-append, length-map, length-take-le, map-append, take-append-drop, take-map, drop-drop}
use Rattle.std.proofs.Math.Seq.{drop-append_seam, take-append_seam, take-length}
use Rattle.std.proofs.lemmas.Simd.{length-chunk, length-put_chunk, chunk-drop, pick_l_left, pick_l-range_with_len, take_more_put_chunk}
use Rattle.std.specs.List.{range_with_len}
use Rattle.std.specs.Simd.Lanes.{chunk, pick_l, put_chunk}
use Rattle.std.specs.Result.{result_ok}
use Rattle.hex.specs.Hex.{decode_pairs}
use Rattle.hex.proofs.HexLemmas.{decode_of-even}
use Rattle.dm_text.specs.Hexadecimal.{digit_worth, word_octets}
use Rattle.dm_text.specs.SideBySide.{bad_lanes, bad_marks, paired, worth_of_mark, AreRead, HasBadDigit}
use Rattle.dm_text.proofs.Marks.{bad_worths}
use Rattle.dm_text.proofs.Runs.{bad_run, first_good, good_run, length-paired}

-- ---- bad lanes of parts

no_more_bad : (worth lanes : ℕ) → worth ≤ 15 → lanes ≡ 0 → cond (leb 16 worth) 1 0 + 2 * lanes ≡ 0
no_more_bad worth lanes few none = grind (arith, few, none)

pub none_bad-append : (xs ys : List ℕ) → bad_lanes xs ≡ 0 → bad_lanes ys ≡ 0 → bad_lanes (xs ++ ys) ≡ 0
none_bad-append [] ys left right = right
none_bad-append (x ∷ xs) ys left right =
    let (few, others) = first_good x (bad_lanes xs) left in
    no_more_bad x (bad_lanes (xs ++ ys)) few (none_bad-append xs ys others right)

none_bad-take : (n : ℕ) (xs : List ℕ) → bad_lanes xs ≡ 0 → bad_lanes (take n xs) ≡ 0
none_bad-take zero xs none = refl
none_bad-take (suc n) [] none = refl
none_bad-take (suc n) (x ∷ xs) none =
    let (few, others) = first_good x (bad_lanes xs) none in
    no_more_bad x (bad_lanes (take n xs)) few (none_bad-take n xs others)

some_bad-front : (xs ys : List ℕ) → 0 < bad_lanes xs → 0 < bad_lanes (xs ++ ys)
some_bad-front [] ys some = absurd (omega (arith, some))
some_bad-front (x ∷ xs) ys some = grind (arith, some, some_bad-front xs ys)

some_bad-behind : (xs ys : List ℕ) → 0 < bad_lanes ys → 0 < bad_lanes (xs ++ ys)
some_bad-behind [] ys some = some
some_bad-behind (x ∷ xs) ys some = let more = some_bad-behind xs ys some in omega (arith, more)

pub some_bad-chunk : (word : List ℕ) (i n : ℕ) → 0 < bad_lanes (map digit_worth (chunk i n word)) → HasBadDigit word
some_bad-chunk word i n some =
    let whole : word ≡ take i word ++ (chunk i n word ++ drop (i + n) word) =
    sym (take-append-drop i word) ∙ ap (λ l. take i word ++ l) (chunk-drop i n word) in
    let run = map digit_worth (chunk i n word) in
    let parts : map digit_worth word ≡ map digit_worth (take i word) ++ (run ++ map digit_worth (drop (i + n) word)) =
    ap (map digit_worth) whole ∙ map-append digit_worth (take i word) _
    ∙ ap (λ l. map digit_worth (take i word) ++ l) (map-append digit_worth (chunk i n word) _) in
    rw parts (some_bad-behind (map digit_worth (take i word)) _ (some_bad-front run _ some))

-- ---- pairs of parts

paired-append : (xs ys : List ℕ) → length xs % 2 ≡ 0 → paired (xs ++ ys) ≡ paired xs ++ paired ys
paired-append [] ys even = refl
paired-append (a ∷ []) ys even = absurd (omega (arith, even))
paired-append (a ∷ b ∷ xs) ys even = ap (λ l. (a * 16 + b) ∷ l) (paired-append xs ys (omega (arith, even)))

paired-take : (n : ℕ) (xs : List ℕ) → take n (paired xs) ≡ paired (take (2 * n) xs)
paired-take zero xs = refl
paired-take (suc n) [] = let e : 2 * suc n ≡ suc (suc (2 * n)) = omega arith in rw e refl
paired-take (suc n) (a ∷ []) = let e : 2 * suc n ≡ suc (suc (2 * n)) = omega arith in rw e refl
paired-take (suc n) (a ∷ b ∷ xs) =
    let e : 2 * suc n ≡ suc (suc (2 * n)) = omega arith in rw e (ap (λ l. (a * 16 + b) ∷ l) (paired-take n xs))

-- ---- parts of the word

take_take : (m n : ℕ) (xs : List ℕ) → m ≤ n → take m (take n xs) ≡ take m xs
take_take zero n xs le = refl
take_take (suc m) zero xs le = absurd (omega (arith, le))
take_take (suc m) (suc n) [] le = refl
take_take (suc m) (suc n) (x ∷ xs) le = ap (λ l. x ∷ l) (take_take m n xs (omega (arith, le)))

take_none : (n : ℕ) → [] ≡ take {A = ℕ} n []
take_none zero = refl
take_none (suc n) = refl

pub take_chunk : (m n : ℕ) (xs : List ℕ) → take (m + n) xs ≡ take m xs ++ chunk m n xs
take_chunk zero n xs = let e : 0 + n ≡ n = omega arith in ap (λ k. take k xs) e
take_chunk (suc m) n [] = let e : suc m + n ≡ suc (m + n) = omega arith in ap (λ k. take k []) e ∙ take_none n
take_chunk (suc m) n (x ∷ xs) =
    let e : suc m + n ≡ suc (m + n) = omega arith in
    ap (λ k. take k (x ∷ xs)) e ∙ ap (λ l. x ∷ l) (take_chunk m n xs)

pub chunk_two : (i m n : ℕ) (xs : List ℕ) → chunk i (m + n) xs ≡ chunk i m xs ++ chunk (i + m) n xs
chunk_two i m n xs = take_chunk m n (drop i xs) ∙ ap (λ l. chunk i m xs ++ take n l) (drop-drop m i xs)

-- ---- reading

-- nothing is read
pub read_nothing : (word octets : List ℕ) → AreRead word octets 0
read_nothing word octets = record { good = refl; read = refl }

-- less is read, too
read_less : (word octets : List ℕ) (m n : ℕ) → m ≤ n → AreRead word octets n → AreRead word octets m
read_less word octets m n le so =
    let twice : 2 * m ≤ 2 * n = omega (arith, le) in
    let front : take (2 * m) (map digit_worth (take (2 * n) word)) ≡ map digit_worth (take (2 * m) word) =
    take-map digit_worth (2 * m) (take (2 * n) word) ∙ ap (map digit_worth) (take_take (2 * m) (2 * n) word twice) in
    record {
      good = ap bad_lanes (sym front) ∙ none_bad-take (2 * m) _ so.good;
      read = sym (take_take m n octets le) ∙ ap (take m) so.read ∙ paired-take m _ ∙ ap paired front;
    }

-- a run of k octets is read behind so many
pub read_behind_it : (word octets : List ℕ) (i j k : ℕ) → j ≡ 2 * i → length word ≡ 2 * length octets → i + k ≤ length octets
    → bad_lanes (map digit_worth (chunk j (2 * k) word)) ≡ 0 → AreRead word octets i
    → AreRead word (put_chunk i octets (paired (map digit_worth (chunk j (2 * k) word)))) (i + k)
read_behind_it word octets i j k is twice room good so =
    let run = map digit_worth (chunk j (2 * k) word) in
    let front = map digit_worth (take (2 * i) word) in
    let parts : map digit_worth (take (2 * (i + k)) word) ≡ front ++ run =
    ap (λ n. map digit_worth (take n word)) (two_parts) ∙ ap (map digit_worth) (take_chunk (2 * i) (2 * k) word)
    ∙ map-append digit_worth (take (2 * i) word) (chunk (2 * i) (2 * k) word)
    ∙ ap (λ n. front ++ map digit_worth (chunk n (2 * k) word)) (sym is) in
    let long : length run ≡ 2 * k = length-map (chunk j (2 * k) word) digit_worth ∙ length-chunk j (2 * k) word (omega (arith, is, twice, room)) in
    let wide : length front ≡ 2 * i = length-map (take (2 * i) word) digit_worth ∙ length-take-le (2 * i) word (omega (arith, twice, room)) in
    let half = length-paired run (omega (arith, long)) in
    record {
      good = ap bad_lanes parts ∙ none_bad-append front run so.good good;
      read = take_more_put_chunk i octets (paired run) (i + k) (omega (arith, half, long)) room
          ∙ ap (λ l. l ++ paired run) so.read ∙ sym (paired-append front run (omega (arith, wide))) ∙ ap paired (sym parts);
    } where
      two_parts : 2 * (i + k) ≡ 2 * i + 2 * k
      two_parts = omega arith

-- a run of k octets is read from a place on that has been read
pub read_more : (word octets : List ℕ) (i j k n : ℕ) → j ≡ 2 * i → length word ≡ 2 * length octets → i + k ≤ length octets
    → i ≤ n → bad_lanes (map digit_worth (chunk j (2 * k) word)) ≡ 0 → AreRead word octets n
    → AreRead word (put_chunk i octets (paired (map digit_worth (chunk j (2 * k) word)))) (i + k)
read_more word octets i j k n is twice room le good so =
    read_behind_it word octets i j k is twice room good (read_less word octets i n le so)

-- all is read
pub read_all : (word octets : List ℕ) → length word ≡ 2 * length octets → AreRead word octets (length octets)
    → word_octets word ≡ Some octets
unfolding decode_pairs
read_all word octets twice so =
    let whole : take (2 * length octets) word ≡ word = ap (λ n. take n word) (sym twice) ∙ all word in
    let good : bad_lanes (map digit_worth word) ≡ 0 = ap (λ l. bad_lanes (map digit_worth l)) (sym whole) ∙ so.good in
    let read : octets ≡ paired (map digit_worth word) = sym (all octets) ∙ so.read ∙ ap (λ l. paired (map digit_worth l)) whole in
    ap result_ok (decode_of-even word (omega (arith, twice)) ∙ ap (decode_pairs 0) (sym (append-nil word))
    ∙ good_run word [] 0 (omega (arith, twice)) good ∙ ap Ok (append-nil _ ∙ sym read)) where
      all : (xs : List ℕ) → take (length xs) xs ≡ xs
      all [] = refl
      all (x ∷ xs) = ap (λ l. x ∷ l) (all xs)

-- a digit is bad
pub read_bad : (word : List ℕ) → length word % 2 ≡ 0 → HasBadDigit word → word_octets word ≡ None
read_bad word even bad =
    let no = bad_run word [] 0 even bad in
    ap result_ok (decode_of-even word even ∙ ap (decode_pairs 0) (sym (append-nil word)) ∙ no.1)

-- ---- marks

-- a run whose marks are good
pub run_read : (word front back : List ℕ) (i : ℕ) → map worth_of_mark front ≡ map digit_worth (chunk i 16 word)
    → map worth_of_mark back ≡ map digit_worth (chunk (i + 16) 16 word) → bad_marks front ≡ 0 → bad_marks back ≡ 0
    → (paired (map worth_of_mark front ++ map worth_of_mark back) ≡ paired (map digit_worth (chunk i 32 word)))
    × (bad_lanes (map digit_worth (chunk i 32 word)) ≡ 0)
run_read word front back i is also left right =
    let parts : map worth_of_mark front ++ map worth_of_mark back ≡ map digit_worth (chunk i 32 word) =
    ap (λ l. l ++ map worth_of_mark back) is ∙ ap (λ l. map digit_worth (chunk i 16 word) ++ l) also
    ∙ sym (map-append digit_worth (chunk i 16 word) (chunk (i + 16) 16 word))
    ∙ ap (map digit_worth) (sym (chunk_two i 16 16 word)) in (
      ap paired parts,
      ap bad_lanes (sym parts) ∙ none_bad-append (map worth_of_mark front) (map worth_of_mark back)
          (bad_worths front ∙ left) (bad_worths back ∙ right),
    )

-- a run with a bad mark
pub run_bad : (word marks : List ℕ) (i : ℕ) → map worth_of_mark marks ≡ map digit_worth (chunk i 16 word)
    → ¬ (bad_marks marks ≡ 0) → HasBadDigit word
run_bad word marks i is fails =
    let same : bad_lanes (map digit_worth (chunk i 16 word)) ≡ bad_marks marks = ap bad_lanes (sym is) ∙ bad_worths marks in
    some_bad-chunk word i 16 (by (bad_marks marks) same fails) where
      by : (n : ℕ) → bad_lanes (map digit_worth (chunk i 16 word)) ≡ n → ¬ (n ≡ 0)
          → 0 < bad_lanes (map digit_worth (chunk i 16 word))
      by zero same fails = absurd (fails refl)
      by (suc n) same fails = omega (arith, same)

-- where the lower marks are bad, one of the two is
pub either_bad : (front back low : List ℕ) (C : Type 0) → (bad_marks front ≡ 0 → bad_marks back ≡ 0 → bad_marks low ≡ 0)
    → ¬ (bad_marks low ≡ 0) → (¬ (bad_marks front ≡ 0) → C) → (¬ (bad_marks back ≡ 0) → C) → C
either_bad front back low C each fails left right = by (nat_eq (bad_marks front) 0) refl (nat_eq (bad_marks back) 0) refl where
  by : (m : Bool) → nat_eq (bad_marks front) 0 ≡ m → (n : Bool) → nat_eq (bad_marks back) 0 ≡ n → C
  by true is true also = absurd (fails (each (eqb-true (bad_marks front) 0 is) (eqb-true (bad_marks back) 0 also)))
  by false is n also = left (λ e. cc (sym is ∙ ap (λ k. nat_eq k 0) e))
  by true is false also = right (λ e. cc (sym also ∙ ap (λ k. nat_eq k 0) e))

-- what the lowest marks tell
pub told : (word octets low : List ℕ) (result : Bool) → result ≡ nat_eq (bad_marks low) 0
    → length word ≡ 2 * length octets → (bad_marks low ≡ 0 → AreRead word octets (length octets))
    → (¬ (bad_marks low ≡ 0) → HasBadDigit word) → word_octets word ≡ cond result (Some octets) None
told word octets low true is twice good bad = read_all word octets twice (good (eqb-true (bad_marks low) 0 (sym is)))
told word octets low false is twice good bad =
    read_bad word (omega (arith, twice)) (bad (λ e. cc (is ∙ ap (λ k. nat_eq k 0) e)))

-- a run of eight octets whose marks are good
pub marks_read : (word marks : List ℕ) (i : ℕ) → map worth_of_mark marks ≡ map digit_worth (chunk i 16 word)
    → bad_marks marks ≡ 0 → bad_lanes (map digit_worth (chunk i 16 word)) ≡ 0
marks_read word marks i is none = ap bad_lanes (sym is) ∙ bad_worths marks ∙ none

-- sixteen octets as eight and eight
pub halves : (xs ys octets : List ℕ) → length xs ≡ 16 → length ys ≡ 16 → octets ≡ paired (xs ++ ys)
    → (chunk 0 8 octets ≡ paired xs) × (chunk 8 8 octets ≡ paired ys)
halves xs ys octets long wide is =
    let eight : length (paired xs) ≡ 8 = omega (arith, length-paired xs (omega (arith, long)), long) in
    let also : length (paired ys) ≡ 8 = omega (arith, length-paired ys (omega (arith, wide)), wide) in
    let parts : octets ≡ paired xs ++ paired ys = is ∙ paired-append xs ys (omega (arith, long)) in (
      ap (take 8) parts ∙ ap (λ n. take n (paired xs ++ paired ys)) (sym eight) ∙ take-append_seam (paired xs) (paired ys),
      ap (λ l. take 8 (drop 8 l)) parts ∙ ap (λ n. take 8 (drop n (paired xs ++ paired ys))) (sym eight)
          ∙ ap (take 8) (drop-append_seam (paired xs) (paired ys)) ∙ ap (λ n. take n (paired ys)) (sym also)
          ∙ take-length (paired ys),
    )

pub extracted : (octets : List ℕ) → length octets ≡ 16
    → (pick_l 0 (octets ++ octets) (range_with_len 0 8) ≡ chunk 0 8 octets)
    × (pick_l 0 (octets ++ octets) (range_with_len 8 8) ≡ chunk 8 8 octets)
extracted octets long = (
  pick_l_left 0 octets octets 16 (range_with_len 0 8) long tt ∙ pick_l-range_with_len 0 octets 0 8 (omega (arith, long)),
  pick_l_left 0 octets octets 16 (range_with_len 8 8) long tt ∙ pick_l-range_with_len 0 octets 8 8 (omega (arith, long)),
)

abbrev pub front_of : List ℕ → List ℕ
front_of octets = pick_l 0 (octets ++ octets) (range_with_len 0 8)

abbrev pub back_of : List ℕ → List ℕ
back_of octets = pick_l 0 (octets ++ octets) (range_with_len 8 8)

-- the first eight octets and the last eight are read
pub ends_read : (word octets read front back : List ℕ) (last : ℕ) → length word ≡ 2 * length octets → last + 8 ≡ length octets
    → last ≤ 8 → map worth_of_mark front ≡ map digit_worth (chunk 0 16 word)
    → map worth_of_mark back ≡ map digit_worth (chunk (2 * last) 16 word) → bad_marks front ≡ 0 → bad_marks back ≡ 0
    → read ≡ paired (map worth_of_mark front ++ map worth_of_mark back)
    → AreRead word (put_chunk last (put_chunk 0 octets (front_of read)) (back_of read)) (last + 8)
ends_read word octets read front back last twice end few is also left right joined =
    let fronts = map digit_worth (chunk 0 16 word) in
    let backs = map digit_worth (chunk (2 * last) 16 word) in
    let long : length fronts ≡ 16 = length-map (chunk 0 16 word) digit_worth ∙ length-chunk 0 16 word (omega (arith, twice, end)) in
    let wide : length backs ≡ 16 = length-map (chunk (2 * last) 16 word) digit_worth ∙ length-chunk (2 * last) 16 word (omega (arith, twice, end)) in
    let whole : read ≡ paired (fronts ++ backs) =
    joined ∙ ap (λ l. paired (l ++ map worth_of_mark back)) is ∙ ap (λ l. paired (fronts ++ l)) also in
    let both : length (fronts ++ backs) ≡ 32 = omega (arith, length-append fronts backs, long, wide) in
    let half : 2 * length (paired (fronts ++ backs)) ≡ length (fronts ++ backs) = length-paired (fronts ++ backs) (omega (arith, both)) in
    let size : length read ≡ 16 = ap length whole ∙ omega (arith, half, both) in
    let (some, others) = extracted read size in
    let (these, those) = halves fronts backs read long wide whole in
    let one = put_chunk 0 octets (front_of read) in
    let same = length-put_chunk 0 octets (front_of read) in
    let first : AreRead word one 8 = subst (λ l. AreRead word (put_chunk 0 octets l) 8) (sym (some ∙ these))
    (read_more word octets 0 0 8 0 (omega arith) twice (omega (arith, end)) (omega arith) (marks_read word front 0 is left)
    (read_nothing word octets)) in
    subst (λ l. AreRead word (put_chunk last one l) (last + 8)) (sym (others ∙ those))
    (read_more word one last (2 * last) 8 8 refl (omega (arith, twice, same)) (omega (arith, end, same)) few
    (marks_read word back (2 * last) also right) first)
