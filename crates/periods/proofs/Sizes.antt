-- How far a start can lie, and how long a Period can last.
use Rattle.std.proofs.Common.{◌≡◌, ℕ, zero, suc, ◌+◌, ◌-◌, ◌*◌, ◌^◌, ◌<◌, ◌≤◌, Bool, true, false, cond, ltb, leb, List, length, IfSome, Some, None, codes, Option, sym, ap, subst, add-one, arith}
use Rattle.std.proofs.lemmas.Bool.{cond_both}
use Rattle.std.specs.Option.{option_or}
use Rattle.std.specs.Bool.{then_some}
use Rattle.tables.specs.declared.manifest.Attribute.{Attribute}
use Rattle.tables.specs.declared.manifest.Element.{Element}
use Rattle.tree.specs.Questions.{value_of}
use Rattle.values.specs.Duration.{duration_of}
use Rattle.values.specs.Given.{present}
use Rattle.periods.specs.Starts.{plus, lasting, periods, period_at, stated_start, stated_duration, following, start_of, end_of, length_of}
use Rattle.periods.proofs.Durations.{Small, present_small}

-- a fact that holds whatever the number, and one that follows from another
pub always : (o : Option ℕ) (P : Type 0) → P → IfSome o (λ _. P)
always None P h = tt
always (Some n) P h = h

pub weaker : (o : Option ℕ) (P Q : ℕ → Type 0) → ((n : ℕ) → P n → Q n) → IfSome o P → IfSome o Q
weaker None P Q f h = tt
weaker (Some n) P Q f h = f n h

-- the start of the Period i lies at most i + 1 of the longest durations away
abbrev Within : ℕ → Option ℕ → Type 0
Within i o = IfSome o (λ n. n ≤ (i + 1) * 100000000000)

within_either : (i : ℕ) (a b : Option ℕ) → Small a → Within i b → Within i (option_or a b)
within_either i None b ha hb = hb
within_either i (Some n) b ha hb = omega arith

within_plus : (i : ℕ) (a b : Option ℕ) → Within i a → Small b → Within (suc i) (plus a b)
within_plus i None b ha hb = tt
within_plus i (Some a) None ha hb = tt
within_plus i (Some a) (Some b) ha hb = omega arith

small_when : (b : Bool) (n : ℕ) → n ≤ 100000000000 → Small (then_some b n)
small_when true n h = h
small_when false n h = tt

-- from a start to the end that follows from it, or to one that is stated, it is no longer than a duration
small_to_end : (a d e : Option ℕ) → Small a → Small d → Small e → (s : Option ℕ) (b : Bool) → Small (lasting s (cond b (option_or a (plus s d)) e))
small_to_end a d e ha hd he None b = tt
small_to_end a d None ha hd he (Some s) false = tt
small_to_end a d (Some e) ha hd he (Some s) false = small_when (leb s e) (e - s) (omega arith)
small_to_end None None e ha hd he (Some s) true = tt
small_to_end None (Some d) e ha hd he (Some s) true = small_when (leb s (s + d)) (s + d - s) (omega arith)
small_to_end (Some a) d e ha hd he (Some s) true = small_when (leb s a) (a - s) (omega arith)

module _ (m : List ℕ) (es : List Element) (xs : List Attribute) where
  stated_small : (row : ℕ) (n : List ℕ) → Small (present duration_of (value_of m xs row n))
  stated_small row n = present_small (value_of m xs row n)

  within_start : (i : ℕ) → Within i (following m es xs i) → Within i (start_of m es xs i)
  within_start i h = within_either i (stated_start m es xs i) (following m es xs i) (stated_small (period_at m es xs i) (codes "start")) h

  within_following : (i : ℕ) → Within i (following m es xs i)
  within_following zero = omega arith
  within_following (suc i) = within_plus i (start_of m es xs i) (stated_duration m es xs i) (within_start i (within_following i)) (stated_small (period_at m es xs i) (codes "duration"))

  pub start_fits : (i : ℕ) → i < 2 ^ 64 → IfSome (start_of m es xs i) (λ n. n < 2 ^ 127)
  start_fits i h = weaker (start_of m es xs i) (λ n. n ≤ (i + 1) * 100000000000) (λ n. n < 2 ^ 127) (λ n le. omega arith) (within_start i (within_following i))

  -- where the next Period begins if it states no start
  pub following_more : (i : ℕ) → following m es xs (i + 1) ≡ plus (start_of m es xs i) (stated_duration m es xs i)
  following_more i = ap (following m es xs) (add-one i)

  pub length-small : (i : ℕ) → Small (length_of m es xs i)
  length-small i =
      let next = ltb (i + 1) (length (periods m es xs)) in
      let start = start_of m es xs i in
      let whole = present duration_of (value_of m xs 0 (codes "mediaPresentationDuration")) in
      let S : Option ℕ → Type 0 = λ f. Small (lasting start (cond next (option_or (stated_start m es xs (i + 1)) f) whole)) in
      let small = small_to_end (stated_start m es xs (i + 1)) (stated_duration m es xs i) whole (stated_small (period_at m es xs (i + 1)) (codes "start")) (stated_small (period_at m es xs i) (codes "duration")) (stated_small 0 (codes "mediaPresentationDuration")) start next in
      cond_both (ltb i (length (periods m es xs))) (lasting start (end_of m es xs i)) None Small (λ _. subst S (sym (following_more i)) small) (λ _. tt)
