-- What an expansion begins with, which does not hang on the number and the time.
use Rattle.std.proofs.Common.{◌≡◌, ℕ, zero, suc, ◌+◌, ◌-◌, ◌/◌, ◌%◌, max, Bool, true, false, not, ◌&&◌, eqb, List, [], ◌∷◌, ◌++◌, Some, None, codes, sym, refl, ap, ◌∙◌, append_assoc, mod-lt, arith, lit<}
use Rattle.std.proofs.lemmas.Bool.{and_parts}
use Rattle.std.proofs.lemmas.Bool.Decides.{nat_tests}
use Rattle.output.specs.Digits.{last_digits, digit_count, width_of, padded}
use Rattle.template.specs.declared.Identifier.{Identifier}
use Rattle.template.specs.declared.Identifier.TheVariants.{RepresentationId, Number, Bandwidth, Time}
use Rattle.template.specs.declared.Piece.{Piece}
use Rattle.template.specs.declared.Piece.TheVariants.{Byte, Dollar, Value}
use Rattle.template.specs.Reading.{begins, is_digit, pieces}
use Rattle.address.specs.Expansion.{Given, value_text, meanings, expanded, front_of}
use Rattle.address.specs.Joining.{absolute}
use Rattle.joins.specs.Joints.{rooted}

-- whether a word has no digit
abbrev undigited : List ℕ → Bool
undigited [] = true
undigited (c ∷ cs) = not (is_digit c) && undigited cs

-- no digit equals a byte that is none
other_byte : (n c : ℕ) → not (is_digit c) ≡ true → eqb (48 + n % 10) c ≡ false
other_byte n c h = let m = mod-lt n {m = 10} (lit< tt) in grind (arith, nat_tests)

-- a text that begins with digits begins with no such word
digits_first : (k n c : ℕ) (cs rest : List ℕ) → not (is_digit c) ≡ true → begins (c ∷ cs) (last_digits (suc k) n ++ rest) ≡ false
digits_first zero n c cs rest h = ap (λ x. x && begins cs rest) (other_byte n c h)
digits_first (suc k) n c cs rest h =
    ap (begins (c ∷ cs)) (append_assoc (last_digits (suc k) (n / 10)) ((48 + n % 10) ∷ []) rest)
    ∙ digits_first k (n / 10) c cs ((48 + n % 10) ∷ rest) h

number_first : (width n c : ℕ) (cs rest : List ℕ) → not (is_digit c) ≡ true → begins (c ∷ cs) (padded width n ++ rest) ≡ false
number_first width n c cs rest h =
    let e : max (digit_count n) (width_of width) ≡ suc (max (digit_count n) (width_of width) - 1) = omega arith in
    ap (λ k. begins (c ∷ cs) (last_digits k n ++ rest)) e ∙ digits_first (max (digit_count n) (width_of width) - 1) n c cs rest h

-- two texts begin with the same words without digits
abbrev Alike : List ℕ → List ℕ → Type 0
Alike a b = (w : List ℕ) → undigited w ≡ true → begins w a ≡ begins w b

alike_behind : (front a b : List ℕ) → Alike a b → Alike (front ++ a) (front ++ b)
alike_behind [] a b same w h = same w h
alike_behind (x ∷ front) a b same [] h = refl
alike_behind (x ∷ front) a b same (c ∷ w) h =
    ap (λ t. eqb x c && t) (alike_behind front a b same w (and_parts (not (is_digit c)) (undigited w) h).1)

alike_numbers : (width m n : ℕ) (a b : List ℕ) → Alike (padded width m ++ a) (padded width n ++ b)
alike_numbers width m n a b [] h = refl
alike_numbers width m n a b (c ∷ w) h =
    let other = (and_parts (not (is_digit c)) (undigited w) h).0 in
    number_first width m c w a other ∙ sym (number_first width n c w b other)

-- beginning with '/' is beginning with a word
rooted_begins : (t : List ℕ) → rooted t ≡ begins (47 ∷ []) t
rooted_begins [] = refl
rooted_begins (b ∷ bs) = elim (eqb b 47) as (λ x. x ≡ (x && true)) [ true ↦ refl | false ↦ refl ]

module _ (id : List ℕ) (bandwidth number time : ℕ) where
  abbrev at_segment : Given
  at_segment = record { id = id; bandwidth = bandwidth; number = number; time = time }

  abbrev at_none : Given
  at_none = record { id = id; bandwidth = bandwidth; number = 0; time = 0 }

  alike_value : (i : Identifier) (width : ℕ) (a b : List ℕ) → Alike a b →
      Alike (value_text at_segment i width ++ a) (value_text at_none i width ++ b)
  alike_value RepresentationId width a b same = alike_behind id a b same
  alike_value Number width a b same = alike_numbers width number 0 a b
  alike_value Bandwidth width a b same = alike_behind (padded width bandwidth) a b same
  alike_value Time width a b same = alike_numbers width time 0 a b

  alike_meanings : (ps : List Piece) → Alike (meanings at_segment ps) (meanings at_none ps)
  alike_meanings [] = λ w h. refl
  alike_meanings (Byte x ∷ ps) = alike_behind (x ∷ []) (meanings at_segment ps) (meanings at_none ps) (alike_meanings ps)
  alike_meanings (Dollar ∷ ps) = alike_behind (36 ∷ []) (meanings at_segment ps) (meanings at_none ps) (alike_meanings ps)
  alike_meanings (Value i None ∷ ps) = alike_value i 1 (meanings at_segment ps) (meanings at_none ps) (alike_meanings ps)
  alike_meanings (Value i (Some width) ∷ ps) =
      alike_value i width (meanings at_segment ps) (meanings at_none ps) (alike_meanings ps)

  -- whether an expansion is absolute
  pub absolute_each : (t : List ℕ) → absolute (expanded t at_segment) ≡ absolute (expanded t at_none)
  absolute_each t =
      let plain = alike_meanings (pieces t) (codes "http://") refl in
      let safe = alike_meanings (pieces t) (codes "https://") refl in
      cc

  -- whether an expansion begins with '/'
  pub rooted_each : (t : List ℕ) → rooted (expanded t at_segment) ≡ rooted (expanded t at_none)
  rooted_each t =
      let slash = alike_meanings (pieces t) (47 ∷ []) refl in
      rooted_begins (expanded t at_segment) ∙ slash ∙ sym (rooted_begins (expanded t at_none))

-- the first bytes of a text tell whether it begins with '/'
pub rooted_front : (text : List ℕ) → rooted (front_of text) ≡ rooted text
rooted_front [] = refl
rooted_front (a ∷ rest) = refl
