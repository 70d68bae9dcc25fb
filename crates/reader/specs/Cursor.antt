-- Where the cursor goes, what stands there, and what comes of the reading there.
use Rattle.std.specs.Prelude.{◌≡◌, ℕ, ◌+◌, ◌<◌, ◌≤◌, Bool, true, false, cond, length, drop, ◌==◌, slice_index}
use Rattle.std.specs.List.{prefix_len}
use Rattle.reader.specs.Machine.{State, Outcome, from}
use Rattle.reader.specs.declared.fault.ReadFault.{ReadFault}
use Rattle.reader.specs.declared.fault.ReadRefusal.TheVariants.{Grammar, Ampersand}
use Rattle.reader.specs.declared.lexer.Reader.{Reader}

-- what comes of the state s at the cursor, with room for E elements and A attributes
abbrev pub comes : Reader → ℕ → ℕ → State → Outcome
comes r E A s = from r.src.now E A s r.pos

-- the reader q is r on the same manifest, its cursor no further back
pub record Onward (r q : Reader) : Type 0 where
  pub src : q.src.now ≡ r.src.now
  pub further : r.pos ≤ q.pos

-- the byte b stands at the cursor
pub record Stands (r : Reader) (b : ℕ) : Type 0 where
  pub before : r.pos < length r.src.now
  pub is : b ≡ slice_index r.src.now r.pos

-- no byte of the class stands at the cursor
abbrev pub Lacks : (ℕ → Bool) → Reader → Type 0
Lacks class r = r.pos < length r.src.now → class (slice_index r.src.now r.pos) ≡ false

-- the byte b of the class stood at the cursor, which went behind it
pub record Took (class : ℕ → Bool) (r q : Reader) (b : ℕ) : Type 0 where
  pub onward : Onward r q
  pub stood : Stands r b
  pub passed : class b ≡ true
  pub pos : q.pos ≡ r.pos + 1

-- the cursor went behind the run of bytes of the class
pub record Ran (class : ℕ → Bool) (r q : Reader) : Type 0 where
  pub onward : Onward r q
  pub pos : q.pos ≡ r.pos + prefix_len class (drop r.pos r.src.now)
  pub stops : Lacks class q

-- the fault where not the byte b but another or none stands at the cursor
pub record Misses (b : ℕ) (r : Reader) (f : ReadFault) : Type 0 where
  pub byte : f.byte ≡ r.pos
  pub ends : length r.src.now ≤ r.pos → f.refusal ≡ Grammar
  pub other : r.pos < length r.src.now → (slice_index r.src.now r.pos == b) ≡ false
  pub why : r.pos < length r.src.now → f.refusal ≡ cond (slice_index r.src.now r.pos == 38) Ampersand Grammar
