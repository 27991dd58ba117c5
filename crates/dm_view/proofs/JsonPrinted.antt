-- What tokens are printed as, and what more of them make of it.
use Rattle.std.proofs.Common.{◌≡◌, ◌&&◌, ◌∙◌, ℕ, Bool, true, false, cond, fold, refl, sym, ap, List, [], ◌∷◌, ◌++◌}
use Rattle.std.proofs.Common.{codes, append-nil, append_assoc}
use Rattle.json.proofs.Printed.Tokens.{tokens-print, print_from-append}
use Rattle.json.specs.Lex.{tokens}
use Rattle.json.specs.Print.{begins, ends, ends_value, escape, escape_byte, separator, token_text, print_from, print}
use Rattle.json.specs.Print.{IsPrintable, ArePrintable}
use Rattle.json.specs.Token.{Token, key, string, number}
use Rattle.dm_view.specs.JsonPrinted.{IsPrinted, IsPrintedAs, flags_tokens}

-- the tokens are read back
pub shown : (text : List ℕ) (after_value : Bool) (h : IsPrinted text after_value) → tokens text ≡ h.printed
shown text after_value h = ap tokens h.same ∙ tokens-print h.printed h.printable

pub as_printed : (text : List ℕ) (after_value : Bool) → IsPrinted text after_value → text ≡ print (tokens text)
as_printed text after_value h = h.same ∙ ap print (sym (shown text after_value h))

-- no octets are no tokens
pub none : (text : List ℕ) → text ≡ [] → IsPrinted text false
unfolding print_from ArePrintable
none text is = record { printed = []; printable = tt; same = is; place = refl }

pub no_tokens : (text : List ℕ) → text ≡ [] → tokens text ≡ []
unfolding none
no_tokens text is = shown text false (none text is)

printable-append : (ts us : List Token) → ArePrintable ts → ArePrintable us → ArePrintable (ts ++ us)
unfolding ArePrintable
printable-append [] us h k = k
printable-append (t ∷ ts) us h k = (h.0, printable-append ts us h.1 k)

ends-append : (c : Bool) (ts us : List Token)
    → fold (λ _ t. ends t) c (ts ++ us) ≡ fold (λ _ t. ends t) (fold (λ _ t. ends t) c ts) us
ends-append c [] us = refl
ends-append c (t ∷ ts) us = ends-append (ends t) ts us

-- a piece more
module _ (old new piece : List ℕ) (after begun ended : Bool) (ts : List Token) (h : IsPrinted old after)
    (q : IsPrintedAs begun piece ended ts) (e : new ≡ old ++ (cond (after && begun) (44 ∷ []) [] ++ piece)) where
  pub more : IsPrinted new ended
  more = record {
    printed = h.printed ++ ts;
    printable = printable-append h.printed ts h.printable q.good;
    same = e ∙ ap (λ l. old ++ l) (sym (q.text after)) ∙ (λ i. h.same i ++ print_from (h.place i) ts)
        ∙ sym (print_from-append false h.printed ts);
    place = sym (ends-append false h.printed ts ∙ q.end (ends_value h.printed));
  }

  pub shows_more : tokens new ≡ tokens old ++ ts
  unfolding more
  shows_more = shown new ended more ∙ ap (λ l. l ++ ts) (sym (shown old after h))

-- ---- pieces

-- the text of one token
pub of_token : (t : Token) → IsPrintable t → IsPrintedAs (begins t) (token_text t) (ends t) (t ∷ [])
unfolding print_from ArePrintable
of_token t h = record {
  good = (h, tt);
  text = λ a. ap (λ l. separator a t ++ l) (append-nil (token_text t));
  end = λ a. refl;
}

-- a text that needs no escapes, between its `"`
pub of_string : (s : List ℕ) → escape s ≡ s → IsPrintedAs true (codes "\"" ++ (s ++ codes "\"")) true (string s ∷ [])
unfolding print_from ArePrintable
of_string s plain = record {
  good = (tt, tt);
  text = λ a. ap (λ l. separator a (string s) ++ l) (append-nil (token_text (string s))
      ∙ ap (λ l. 34 ∷ (l ++ 34 ∷ [])) plain);
  end = λ a. refl;
}

pub of_key : (s : List ℕ) → escape s ≡ s → IsPrintedAs true (codes "\"" ++ (s ++ codes "\":")) false (key s ∷ [])
unfolding print_from ArePrintable
of_key s plain = record {
  good = (tt, tt);
  text = λ a. ap (λ l. separator a (key s) ++ l) (append-nil (token_text (key s))
      ∙ append_assoc (34 ∷ escape s) (34 ∷ []) (58 ∷ []) ∙ ap (λ l. 34 ∷ (l ++ 34 ∷ 58 ∷ [])) plain);
  end = λ a. refl;
}

-- a key with its escapes
pub of_escaped_key : (s : List ℕ)
    → IsPrintedAs true (codes "" ++ (token_text (string s) ++ codes ":")) false (key s ∷ [])
unfolding print_from ArePrintable
of_escaped_key s = record {
  good = (tt, tt);
  text = λ a. ap (λ l. separator a (key s) ++ l) (append-nil (token_text (key s)));
  end = λ a. refl;
}

-- a member that is a number
pub of_number_member : (name k n : List ℕ) → name ≡ token_text (key k) → IsPrintable (number n)
    → IsPrintedAs true (name ++ (n ++ codes "")) true (key k ∷ number n ∷ [])
unfolding print_from ArePrintable
of_number_member name k n is good = record {
  good = (tt, (good, tt));
  text = λ a. ap (λ l. separator a (key k) ++ (l ++ (n ++ []))) (sym is);
  end = λ a. refl;
}

-- the name of an AVP, as a member
pub of_name : (s : List ℕ) → escape s ≡ s
    → IsPrintedAs true (codes "\"name\":\"" ++ (s ++ codes "\"")) true (key (codes "name") ∷ string s ∷ [])
unfolding print_from ArePrintable escape_byte
of_name s plain = record {
  good = (tt, (tt, tt));
  text = λ a. ap (λ l. cond (a && true) (44 ∷ []) [] ++ (codes "\"name\":\"" ++ l)) (append-nil (escape s ++ 34 ∷ [])
      ∙ ap (λ l. l ++ 34 ∷ []) plain);
  end = λ a. refl;
}

-- keys
pub code_key : codes "\"code\":" ≡ token_text (key (codes "code"))
unfolding escape_byte
code_key = refl

pub value_key : codes "\"value\":" ≡ token_text (key (codes "value"))
unfolding escape_byte
value_key = refl

pub application_key : codes "\"application\":" ≡ token_text (key (codes "application"))
unfolding escape_byte
application_key = refl

pub hop_key : codes "\"hop_by_hop\":" ≡ token_text (key (codes "hop_by_hop"))
unfolding escape_byte
hop_key = refl

pub end_key : codes "\"end_to_end\":" ≡ token_text (key (codes "end_to_end"))
unfolding escape_byte
end_key = refl

-- flags in words
pub of_flags : (vendor mandatory protected : Bool)
    → IsPrintedAs true (print (flags_tokens vendor mandatory protected)) true (flags_tokens vendor mandatory protected)
unfolding print_from ArePrintable
of_flags false false false = record { good = (tt, (tt, (tt, tt))); text = λ a. refl; end = λ a. refl }
of_flags false false true = record { good = (tt, (tt, (tt, (tt, tt)))); text = λ a. refl; end = λ a. refl }
of_flags false true false = record { good = (tt, (tt, (tt, (tt, tt)))); text = λ a. refl; end = λ a. refl }
of_flags false true true = record { good = (tt, (tt, (tt, (tt, (tt, tt))))); text = λ a. refl; end = λ a. refl }
of_flags true false false = record { good = (tt, (tt, (tt, (tt, tt)))); text = λ a. refl; end = λ a. refl }
of_flags true false true = record { good = (tt, (tt, (tt, (tt, (tt, tt))))); text = λ a. refl; end = λ a. refl }
of_flags true true false = record { good = (tt, (tt, (tt, (tt, (tt, tt))))); text = λ a. refl; end = λ a. refl }
of_flags true true true = record { good = (tt, (tt, (tt, (tt, (tt, (tt, tt)))))); text = λ a. refl; end = λ a. refl }
