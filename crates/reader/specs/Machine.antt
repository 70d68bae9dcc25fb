-- How a manifest is read: what is known after each byte, and which byte cannot follow.
use Rattle.std.specs.Prelude.{ℕ, ◌+◌, ◌-◌, min, Bool, true, false, cond, not, ◌&&◌, ◌||◌, List, [], ◌∷◌, ◌++◌, length, drop, codes, ◌==◌, nat_le, nat_lt, slice_index_or, slice_range}
use Rattle.std.specs.Str.{bytes_eq}
use Rattle.tables.specs.Parts.{part, is_of}
use Rattle.tables.specs.Zero.{span, no_element}
use Rattle.tables.specs.declared.manifest.Attribute.{Attribute}
use Rattle.tables.specs.declared.manifest.Element.{Element}
use Rattle.tables.specs.declared.span.Span.{Span}
use Rattle.reader.specs.Bytes.{blank, begins, goes, quotes, visible, ascii, textual, plain}
use Rattle.reader.specs.declared.fault.ReadRefusal.{ReadRefusal}
use Rattle.reader.specs.declared.fault.ReadRefusal.TheVariants.{TooLong, Grammar, TooDeep, ClosingName, Ampersand, ElementsFull, AttributesFull, AttributeTwice}

-- what has been read: the rows so far, the row of the innermost open element (0 where none is
-- open), and how many elements are open
pub record Document : Type 0 where
  pub elements : List Element
  pub attributes : List Attribute
  pub inner : ℕ
  pub depth : ℕ

abbrev pub document : List Element → List Attribute → ℕ → ℕ → Document
document es xs o k = record { elements = es; attributes = xs; inner = o; depth = k }

-- nothing has been read
abbrev pub nothing : Document
nothing = document [] [] 0 0

-- the root is open
abbrev pub inside : Document → Bool
inside d = nat_lt 0 d.depth

-- the root is yet to come
abbrev pub rootless : Document → Bool
rootless d = length d.elements == 0

-- the root is closed
abbrev pub finished : Document → Bool
finished d = not (inside d) && not (rootless d)

-- the attribute with the name a and the value v is read, of the element that is the next to get a row
abbrev pub valued : Document → Span → Span → Document
valued d a v = document d.elements (d.attributes ++ (record { element = length d.elements; name = a; value = v } ∷ [])) d.inner d.depth

-- an element's row by its parts
abbrev pub row_of : Span → ℕ → ℕ → Span → Element
row_of e parent level t = record { name = e; parent = parent; level = level; text = t }

-- the row of the element with the name e and the text t, inside what is open
abbrev pub row : Document → Span → Span → Element
row d e t = row_of e d.inner (d.depth + 1) t

-- the element e with the text t is read and open
abbrev pub opened : Document → Span → Span → Document
opened d e t = document (d.elements ++ (row d e t ∷ [])) d.attributes (length d.elements) (d.depth + 1)

-- the element e is read and closed at once
abbrev pub emptied : Document → Span → Document
emptied d e = document (d.elements ++ (row d e (span 0 0) ∷ [])) d.attributes d.inner d.depth

-- the innermost open element is closed
abbrev pub shut : Document → Document
shut d = document d.elements d.attributes (slice_index_or d.elements d.inner no_element).parent (d.depth - 1)

-- where the reading stands
pub data State : Type 0 where
  -- at byte 0
  start : State
  -- behind the '<' at byte 0
  begun : State
  -- between `<?xml` and `?>`, and whether the last byte was '?'
  declaration : Bool → State
  -- between tags and comments: before, inside or behind the root
  outside : Document → State
  -- behind a '<'
  angle : Document → State
  -- this byte and then these have to follow
  word : ℕ → List ℕ → State → State
  -- in a comment, and how many '-' came last, 2 for more
  comment : ℕ → Document → State
  -- in the name, which begins at p, of a start tag
  naming : Document → ℕ → State
  -- in the start tag of e, and whether the last byte was a blank
  tag : Document → Span → Bool → State
  -- behind the '/' of the start tag of e
  slash : Document → Span → State
  -- in the name, which begins at p, of an attribute
  attribute : Document → Span → ℕ → State
  -- behind the name a of an attribute
  sign : Document → Span → Span → State
  -- behind the '=' of the attribute a
  quote : Document → Span → Span → State
  -- in the value, which begins at v, of the attribute a between the quotes q
  value : Document → Span → Span → ℕ → ℕ → State
  -- in the text, which begins at t, of e
  text : Document → Span → ℕ → State
  -- behind `</`
  close : Document → State
  -- in the name, which begins at p, of a closing tag
  closing : Document → ℕ → State
  -- behind the name of a closing tag
  closed : Document → State
  -- refused, at that byte
  wrong : ReadRefusal → ℕ → State

-- what comes of reading
pub data Outcome : Type 0 where
  -- the rows of the elements and of the attributes
  accepted : List Element → List Attribute → Outcome
  -- refused, at that byte
  refused : ReadRefusal → ℕ → Outcome

-- the bytes of ws have to follow before the state is s
abbrev pub reads : List ℕ → State → State
reads [] s = s
reads (w ∷ ws) s = word w ws s

-- how many '-' came last, 2 for more, once the byte b came after k
abbrev pub dashes : ℕ → ℕ → ℕ
dashes k b = cond (b == 45) (min 2 (k + 1)) 0

-- whether an attribute of the element in the row e has the name n
abbrev pub twice : List ℕ → ℕ → List ℕ → List Attribute → Bool
twice m e n [] = false
twice m e n (a ∷ more) = is_of m e n a || twice m e n more

-- a byte of a tag, behind the name or a value
abbrev pub step_tag : Document → Span → Bool → ℕ → ℕ → State
step_tag d e gap at b = cond (blank b) (tag d e true) (cond (b == 62) (text d e (at + 1)) (cond (b == 47) (slash d e) (cond (gap && begins b) (attribute d e at) (wrong Grammar at))))

abbrev pub step_sign : Document → Span → Span → ℕ → ℕ → State
step_sign d e a at b = cond (blank b) (sign d e a) (cond (b == 61) (quote d e a) (wrong Grammar at))

abbrev pub step_closed : Document → ℕ → ℕ → State
step_closed d at b = cond (blank b) (closed d) (cond (b == 62) (outside (shut d)) (wrong Grammar at))

-- a byte of the text of e, which begins at t
abbrev pub step_text : Document → Span → ℕ → ℕ → ℕ → State
step_text d e t at b = cond (textual b) (text d e t) (cond (b == 60) (angle (opened d e (span t (at - t)))) (cond (b == 38) (wrong Ampersand at) (wrong Grammar at)))

-- a byte that passes between tags and comments: one of a text inside the root, else a blank
abbrev pub passes : Bool → ℕ → Bool
passes within b = cond within (textual b) (blank b)

-- a byte between tags and comments: s is the state behind a '<'
abbrev pub step_outside : Document → State → ℕ → ℕ → State
step_outside d s at b = cond (passes (inside d) b) (outside d) (cond (b == 60) s (cond (inside d && b == 38) (wrong Ampersand at) (wrong Grammar at)))

abbrev pub step_angle : Document → ℕ → ℕ → State
step_angle d at b = cond (b == 33) (reads (codes "--") (comment 0 d)) (cond (b == 47) (cond (inside d) (close d) (wrong Grammar at)) (cond (begins b && (inside d || rootless d)) (naming d at) (wrong Grammar at)))

-- the name of a start tag, which begins at p, ends: x comes of it unless a refusal is met
abbrev pub named : {X : Type 0} → (ReadRefusal → ℕ → X) → ℕ → Document → ℕ → X → X
named bad E d p x = cond (nat_le 16 d.depth) (bad TooDeep (p - 1)) (cond (nat_le E (length d.elements)) (bad ElementsFull (p - 1)) x)

-- the name of an attribute, which begins at p, ends before the byte at end
abbrev pub attributed : {X : Type 0} → (ReadRefusal → ℕ → X) → List ℕ → ℕ → Document → ℕ → ℕ → X → X
attributed bad m A d p end x = cond (nat_le A (length d.attributes)) (bad AttributesFull p) (cond (twice m (length d.elements) (slice_range m p end) d.attributes) (bad AttributeTwice p) x)

-- the name of a closing tag, which begins at p, ends before the byte at end
abbrev pub matched : {X : Type 0} → (ReadRefusal → ℕ → X) → List ℕ → Document → ℕ → ℕ → X → X
matched bad m d p end x = cond (bytes_eq (part m (slice_index_or d.elements d.inner no_element).name) (slice_range m p end)) x (bad ClosingName p)

-- the manifest m, with room for E elements and A attributes
module _ (m : List ℕ) (E A : ℕ) where
  -- the byte b stands at the place `at`
  abbrev pub step : State → ℕ → ℕ → State
  step start at b = step_outside nothing begun at b
  step begun at b = cond (b == 63) (reads (codes "xml") (declaration false)) (step_angle nothing at b)
  step (declaration q) at b = cond (q && b == 62) (outside nothing) (cond (ascii b) (declaration (b == 63)) (wrong Grammar at))
  step (outside d) at b = step_outside d (angle d) at b
  step (angle d) at b = step_angle d at b
  step (word w ws s) at b = cond (b == w) (reads ws s) (wrong Grammar at)
  step (comment k d) at b = cond (nat_le 2 k && b == 62) (outside d) (cond (visible b) (comment (dashes k b) d) (wrong Grammar at))
  step (naming d p) at b = cond (goes b) (naming d p) (named wrong E d p (step_tag d (span p (at - p)) false at b))
  step (tag d e gap) at b = step_tag d e gap at b
  step (slash d e) at b = cond (b == 62) (outside (emptied d e)) (wrong Grammar at)
  step (attribute d e p) at b = cond (goes b) (attribute d e p) (attributed wrong m A d p at (step_sign d e (span p (at - p)) at b))
  step (sign d e a) at b = step_sign d e a at b
  step (quote d e a) at b = cond (blank b) (quote d e a) (cond (quotes b) (value d e a (at + 1) b) (wrong Grammar at))
  step (value d e a v q) at b = cond (plain q b) (value d e a v q) (cond (b == q) (tag (valued d a (span v (at - v))) e false) (cond (b == 38) (wrong Ampersand at) (wrong Grammar at)))
  step (text d e t) at b = step_text d e t at b
  step (close d) at b = cond (begins b) (closing d at) (wrong Grammar at)
  step (closing d p) at b = cond (goes b) (closing d p) (matched wrong m d p at (step_closed d at b))
  step (closed d) at b = step_closed d at b
  step (wrong k p) at b = wrong k p

  -- the bytes end at the place `at`; a name that ends there is judged first
  abbrev pub ended : State → ℕ → Outcome
  ended start at = refused Grammar at
  ended begun at = refused Grammar at
  ended (declaration q) at = refused Grammar at
  ended (outside d) at = cond (finished d) (accepted d.elements d.attributes) (refused Grammar at)
  ended (angle d) at = refused Grammar at
  ended (word w ws s) at = refused Grammar at
  ended (comment k d) at = refused Grammar at
  ended (naming d p) at = named refused E d p (refused Grammar at)
  ended (tag d e gap) at = refused Grammar at
  ended (slash d e) at = refused Grammar at
  ended (attribute d e p) at = attributed refused m A d p at (refused Grammar at)
  ended (sign d e a) at = refused Grammar at
  ended (quote d e a) at = refused Grammar at
  ended (value d e a v q) at = refused Grammar at
  ended (text d e t) at = refused Grammar at
  ended (close d) at = refused Grammar at
  ended (closing d p) at = matched refused m d p at (refused Grammar at)
  ended (closed d) at = refused Grammar at
  ended (wrong k p) at = refused k p

  unfoldable pub run : State → ℕ → List ℕ → Outcome
  run s at [] = ended s at
  run s at (b ∷ bs) = run (step s at b) (at + 1) bs

  -- what comes of the state s at the place `at`
  abbrev pub from : State → ℕ → Outcome
  from s at = run s at (drop at m)

  -- what comes of the manifest
  abbrev pub reading : Outcome
  reading = cond (nat_le (length m) 65536) (from start 0) (refused TooLong 0)
