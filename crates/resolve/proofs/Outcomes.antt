-- What the first refusal that applies makes of the outcome.
use Rattle.std.proofs.Common.{◌≡◌, ℕ, true, false, List, [], ◌++◌, Some, None, Ok, Err, Option, Result, sym, ap, ◌∙◌, subst}
use Rattle.std.proofs.lemmas.Bool.{cond-true, cond-false}
use Rattle.timeline.specs.declared.run.Run.{Run}
use Rattle.tree.specs.Trees.{on}
use Rattle.tree.specs.declared.Tree.{Tree}
use Rattle.resolve.specs.Outcome.{first_of, IsFirst, admitting, preparing, timing, addressing, unaddressed, conditions, prepared, runs_by, values_by, answering, leaving, outcome, runs_left}
use Rattle.resolve.specs.Values.{Values}
use Rattle.resolve.specs.declared.fault.ResolveFault.{ResolveFault}
use Rattle.resolve.specs.declared.fault.ResolveFault.TheVariants.{NoAddress}
use Rattle.resolve.specs.declared.prepared.Prepared.{Prepared}
use Rattle.resolve.proofs.Firsts.{is_first, first_append, first_stops}

-- what is said of an answer and of the runs that are left
pub record Comes (t : Tree) (i j rows : ℕ) (answer : Result Values ResolveFault) (refusal : Option ResolveFault) (runs : List Run) : Type 0 where
  pub answer' : answer ≡ on outcome t i j rows
  pub first : IsFirst (on conditions t i j rows) refusal
  pub runs' : runs ≡ on runs_left t i j rows

module _ (t : Tree) (i j rows : ℕ) where
  abbrev Upto : Option ResolveFault
  Upto = first_of (on admitting t i j ++ on preparing t i j)

  abbrev First : Option ResolveFault
  First = first_of (on conditions t i j rows)

  whole : (o : Option ResolveFault) → First ≡ o → IsFirst (on conditions t i j rows) o
  whole o h = subst (IsFirst (on conditions t i j rows)) h (is_first (on conditions t i j rows))

  -- a refusal is the answer, and leaves no runs
  refused : (e : ResolveFault) → First ≡ Some e → Comes t i j rows (Err e) (Some e) []
  refused e h = record {
    answer' = sym (ap (λ o. on answering t o (on prepared t i j)) h);
    first = whole (Some e) h;
    runs' = sym (ap (λ o. on leaving t o (on runs_by t (on prepared t i j))) h);
  }

  -- one before the segments
  pub early : (e : ResolveFault) → Upto ≡ Some e → Comes t i j rows (Err e) (Some e) []
  early e h = refused e (first_stops (on admitting t i j ++ on preparing t i j) (on timing t (on prepared t i j) rows ++ on addressing t (on prepared t i j)) e h)

  module _ (p : Prepared) (upto : Upto ≡ None) (is : p ≡ on prepared t i j) where
    later : First ≡ first_of (on timing t p rows ++ on addressing t p)
    later =
        first_append (on admitting t i j ++ on preparing t i j) (on timing t (on prepared t i j) rows ++ on addressing t (on prepared t i j)) upto
        ∙ ap (λ q. first_of (on timing t q rows ++ on addressing t q)) (sym is)

    -- one of the segments
    pub untimed : (e : ResolveFault) → first_of (on timing t p rows) ≡ Some e → Comes t i j rows (Err e) (Some e) []
    untimed e h = refused e (later ∙ first_stops (on timing t p rows) (on addressing t p) e h)

    module _ (timed : first_of (on timing t p rows) ≡ None) where
      last : First ≡ first_of (on addressing t p)
      last = later ∙ first_append (on timing t p rows) (on addressing t p) timed

      -- one of the addresses
      pub unaddressable : on unaddressed t p ≡ true → Comes t i j rows (Err NoAddress) (Some NoAddress) []
      unaddressable h = refused NoAddress (last ∙ cond-true (on unaddressed t p) (Some NoAddress) None h)

      -- none at all
      pub accepted : on unaddressed t p ≡ false → (v : Values) → v ≡ on values_by t p → Comes t i j rows (Ok v) None (on runs_by t p)
      accepted h v e =
          let none = last ∙ cond-false (on unaddressed t p) (Some NoAddress) None h in
          record {
            answer' = ap (λ (x : Values). Ok x) (e ∙ ap (on values_by t) is) ∙ sym (ap (λ o. on answering t o (on prepared t i j)) none);
            first = whole None none;
            runs' = ap (on runs_by t) is ∙ sym (ap (λ o. on leaving t o (on runs_by t (on prepared t i j))) none);
          }
