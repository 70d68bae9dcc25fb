-- What is judged where a name ends.
use Rattle.std.proofs.Common.{◌≡◌, ℕ, ◌-◌, Bool, true, false, ◌||◌, leb, List, [], ◌∷◌, length, get_or, sym, refl, ap, ◌∙◌}
use Rattle.std.specs.Prelude.{slice_range}
use Rattle.std.specs.List.{list_any}
use Rattle.std.specs.Str.{bytes_eq}
use Rattle.std.proofs.lemmas.Bool.{cond-true, cond-false}
use Rattle.tables.specs.Parts.{part, is_of}
use Rattle.tables.specs.Zero.{span, no_element}
use Rattle.tables.specs.declared.manifest.Attribute.{Attribute}
use Rattle.tables.specs.declared.manifest.Element.{Element}
use Rattle.tables.specs.declared.span.Span.{Span}
use Rattle.reader.specs.Bytes.{goes}
use Rattle.reader.specs.Cursor.{comes, Ran}
use Rattle.reader.specs.Machine.{Document, naming, attribute, sign, tag, closing, closed, refused, twice}
use Rattle.reader.specs.declared.fault.ReadRefusal.TheVariants.{TooDeep, ClosingName, ElementsFull, AttributesFull, AttributeTwice}
use Rattle.reader.specs.declared.lexer.Reader.{Reader}
use Rattle.reader.proofs.Cursor.{meets, alike, stays}

-- one of the rows has the name
twice_any : (m : List ℕ) (e : ℕ) (n : List ℕ) (rows : List Attribute) → twice m e n rows ≡ list_any (is_of m e n) rows
twice_any m e n [] = refl
twice_any m e n (a ∷ more) = ap (λ t. is_of m e n a || t) (twice_any m e n more)

pub twice_told : (m : List ℕ) (e : ℕ) (n n' : List ℕ) (rows : List Attribute) (t : Bool) → n ≡ n' → t ≡ list_any (is_of m e n) rows → twice m e n' rows ≡ t
twice_told m e n n' rows t p h = ap (λ x. twice m e x rows) (sym p) ∙ twice_any m e n rows ∙ sym h

-- the innermost element has the name
pub names_told : (m : List ℕ) (x y : Element) (a n n' : List ℕ) (t : Bool) → x ≡ y → a ≡ part m x.name → n ≡ n' → t ≡ bytes_eq a n → bytes_eq (part m y.name) n' ≡ t
names_told m x y a n n' t p h q k = cc

module _ (E A : ℕ) (d : Document) {r q : Reader} (ran : Ran goes r q) where
  -- the name of an attribute
  module _ (e : Span) where
    to_attribute : comes r E A (attribute d e r.pos) ≡ comes q E A (attribute d e r.pos)
    to_attribute = stays E A ran (attribute d e r.pos) (λ i x y. cond-true _ _ _ y)

    pub attribute_full : leb A (length d.attributes) ≡ true → comes r E A (attribute d e r.pos) ≡ refused AttributesFull r.pos
    attribute_full f = to_attribute ∙ meets E A q (attribute d e r.pos) AttributesFull r.pos (λ lt. cond-false _ _ _ (ran.stops lt) ∙ cond-true _ _ _ f) (cond-true _ _ _ f)

    module _ (f : leb A (length d.attributes) ≡ false) where
      pub attribute_twice : twice q.src.now (length d.elements) (slice_range q.src.now r.pos q.pos) d.attributes ≡ true → comes r E A (attribute d e r.pos) ≡ refused AttributeTwice r.pos
      attribute_twice t = to_attribute ∙ meets E A q (attribute d e r.pos) AttributeTwice r.pos (λ lt. cond-false _ _ _ (ran.stops lt) ∙ cond-false _ _ _ f ∙ cond-true _ _ _ t) (cond-false _ _ _ f ∙ cond-true _ _ _ t)

      pub attribute_on : twice q.src.now (length d.elements) (slice_range q.src.now r.pos q.pos) d.attributes ≡ false → comes r E A (attribute d e r.pos) ≡ comes q E A (sign d e (span r.pos (q.pos - r.pos)))
      attribute_on t = to_attribute ∙ alike E A q (attribute d e r.pos) (sign d e (span r.pos (q.pos - r.pos))) (λ lt. cond-false _ _ _ (ran.stops lt) ∙ cond-false _ _ _ f ∙ cond-false _ _ _ t) (cond-false _ _ _ f ∙ cond-false _ _ _ t)

  -- the name of a start tag
  to_naming : comes r E A (naming d r.pos) ≡ comes q E A (naming d r.pos)
  to_naming = stays E A ran (naming d r.pos) (λ i x y. cond-true _ _ _ y)

  pub naming_deep : leb 16 d.depth ≡ true → comes r E A (naming d r.pos) ≡ refused TooDeep (r.pos - 1)
  naming_deep f = to_naming ∙ meets E A q (naming d r.pos) TooDeep (r.pos - 1) (λ lt. cond-false _ _ _ (ran.stops lt) ∙ cond-true _ _ _ f) (cond-true _ _ _ f)

  module _ (f : leb 16 d.depth ≡ false) where
    pub naming_full : leb E (length d.elements) ≡ true → comes r E A (naming d r.pos) ≡ refused ElementsFull (r.pos - 1)
    naming_full t = to_naming ∙ meets E A q (naming d r.pos) ElementsFull (r.pos - 1) (λ lt. cond-false _ _ _ (ran.stops lt) ∙ cond-false _ _ _ f ∙ cond-true _ _ _ t) (cond-false _ _ _ f ∙ cond-true _ _ _ t)

    pub naming_on : leb E (length d.elements) ≡ false → comes r E A (naming d r.pos) ≡ comes q E A (tag d (span r.pos (q.pos - r.pos)) false)
    naming_on t = to_naming ∙ alike E A q (naming d r.pos) (tag d (span r.pos (q.pos - r.pos)) false) (λ lt. cond-false _ _ _ (ran.stops lt) ∙ cond-false _ _ _ f ∙ cond-false _ _ _ t) (cond-false _ _ _ f ∙ cond-false _ _ _ t)

  -- the name of a closing tag
  to_closing : comes r E A (closing d r.pos) ≡ comes q E A (closing d r.pos)
  to_closing = stays E A ran (closing d r.pos) (λ i x y. cond-true _ _ _ y)

  pub closing_other : bytes_eq (part q.src.now (get_or d.elements d.inner no_element).name) (slice_range q.src.now r.pos q.pos) ≡ false → comes r E A (closing d r.pos) ≡ refused ClosingName r.pos
  closing_other t = to_closing ∙ meets E A q (closing d r.pos) ClosingName r.pos (λ lt. cond-false _ _ _ (ran.stops lt) ∙ cond-false _ _ _ t) (cond-false _ _ _ t)

  pub closing_on : bytes_eq (part q.src.now (get_or d.elements d.inner no_element).name) (slice_range q.src.now r.pos q.pos) ≡ true → comes r E A (closing d r.pos) ≡ comes q E A (closed d)
  closing_on t = to_closing ∙ alike E A q (closing d r.pos) (closed d) (λ lt. cond-false _ _ _ (ran.stops lt) ∙ cond-true _ _ _ t) (cond-true _ _ _ t)
