-- The even timeline as one run.
use Rattle.std.proofs.Common.{◌≡◌, ℕ, ◌≤◌, Bool, true, false, List, [], ◌∷◌, length, sym, ap, ◌∙◌, subst, inl, inr, append-nil, arith}
use Rattle.std.proofs.lemmas.Bool.{cases_Bool}
use Rattle.std.proofs.lemmas.Bool.Decides.{nat_tests}
use Rattle.bottom.specs.Placing.{unless}
use Rattle.timeline.specs.Evenly.{even_run, evenly, ceiling, fair, even_list}
use Rattle.timeline.specs.Laws.Expands.{length_run}
use Rattle.timeline.specs.Runs.{expanded, fair_from}
use Rattle.timeline.specs.declared.run.Run.{Run}
use Rattle.timeline.specs.declared.segment.Segment.{Segment}
use Rattle.presentation.specs.Lists.{given_by}
use Rattle.presentation.specs.Sums.{Accounts}
use Rattle.presentation.specs.declared.plan.Kind.{Kind}
use Rattle.presentation.specs.declared.plan.Kind.TheVariants.{Even}
use Rattle.presentation.specs.declared.sums.Sums.{Sums}

-- an even timeline that has segments is a fair run
pub record OneRun (first duration period count : ℕ) : Type 0 where
  pub fair_one : fair_from 0 (even_run duration count ∷ []) ≡ true
  pub list : even_list first duration period ≡ expanded first (even_run duration count ∷ [])

fair_even : (first duration n : ℕ) → 1 ≤ n → fair first duration n ≡ true → fair_from 0 (even_run duration n ∷ []) ≡ true
fair_even first duration n some passes = grind (arith, nat_tests)

one_run : (first duration period count : ℕ) → 1 ≤ count → count ≡ length (even_list first duration period) → OneRun first duration period count
one_run first duration period count some many =
    let k = ceiling period duration in
    elim (cases_Bool (fair first duration k)) [
      | inl passes ↦
          let is : even_list first duration period ≡ evenly first duration k = rw passes in
          let e : k ≡ count = sym (many ∙ ap length is ∙ length_run first (even_run duration k)) in
          subst (OneRun first duration period) e record {
            fair_one = fair_even first duration k (omega arith) passes;
            list = is ∙ sym (append-nil (evenly first duration k));
          }
      | inr fails ↦
          let is : even_list first duration period ≡ [] = rw fails in
          let none = ap length is in
          absurd (omega arith)
    ]

-- so is what an even duration gives, by how many segments it gives
pub evened : (kind : Kind) (first duration period count : ℕ) (runs : List Run) → kind ≡ Even duration → (count ≡ 0 → ⊥) → (xs : List Segment) → count ≡ length xs → xs ≡ given_by kind first period runs → OneRun first duration period count
evened kind first duration period count runs even some xs many given =
    one_run first duration period count (omega arith) (many ∙ ap length given ∙ ap (λ k. length (given_by k first period runs)) even)

-- the sums of that run are those of the bottom timeline
pub accounts_even : (torn : Bool) (kind : Kind) (first duration period count offset : ℕ) (runs : List Run) (s : Sums) → torn ≡ false → kind ≡ Even duration → OneRun first duration period count → Accounts (expanded first (even_run duration count ∷ [])) offset period s → Accounts (unless torn (given_by kind first period runs)) offset period s
accounts_even torn kind first duration period count offset runs s whole even one sums =
    subst (λ xs. Accounts xs offset period s)
    (sym (ap (λ b. unless b (given_by kind first period runs)) whole ∙ ap (λ k. given_by k first period runs) even ∙ one.list))
    sums
