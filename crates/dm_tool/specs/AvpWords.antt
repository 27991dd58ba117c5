-- The words that tell the code, the vendor and the data of an AVP.
use Rattle.std.specs.Prelude.{◌≡◌, ◌⊎◌, ℕ, Option, Some, None, Ok, List, [], ◌∷◌, ◌++◌, codes}
use Rattle.hex.specs.Hex.{decode_of}
use Rattle.dm_text.specs.Numbers.{TellsNumber}

-- an AVP Code; with a vendor also `/`, which is 47, and the vendor
abbrev pub TellsCode : ℕ → Option ℕ → List ℕ → Type 0
TellsCode code None word = TellsNumber code word
TellsCode code (Some vendor) word = (front back : List ℕ) × (word ≡ front ++ 47 ∷ back) × TellsNumber code front ×
    TellsNumber vendor back

-- hexadecimal digits in either case, an even number of them, or `-` for no octets
abbrev pub TellsData : List ℕ → List ℕ → Type 0
TellsData bytes word = (decode_of word ≡ Ok bytes) ⊎ ((word ≡ codes "-") × (bytes ≡ []))
