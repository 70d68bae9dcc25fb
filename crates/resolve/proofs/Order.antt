-- The values in the order in which they are read: where one cannot be read, not all can.
use Rattle.std.proofs.Common.{◌≡◌, ℕ, ◌+◌, Bool, true, false, ◌||◌, List, [], ◌∷◌, ◌++◌, take, Result, ◌∙◌, arith}
use Rattle.std.proofs.lemmas.Bool.{or_left, or_right}
use Rattle.std.proofs.lemmas.Result.{MatchResult-from_err}
use Rattle.std.specs.Result.{IsErr}
use Rattle.chosen.specs.Choosing.{timeline_in}
use Rattle.chosen.specs.declared.Chosen.{Chosen}
use Rattle.periods.specs.Starts.{periods, asked_by}
use Rattle.tree.specs.Trees.{on}
use Rattle.tree.specs.declared.Tree.{Tree}
use Rattle.values.proofs.Presence.{unread_append}
use Rattle.values.specs.Given.{Asked, unread, some_unread, whole, duration, ReadsAll}
use Rattle.values.specs.declared.ValueFault.{ValueFault}
use Rattle.resolve.specs.Asking.{if_there, must_be_there, timescale_text, start_number_text, bandwidth_text, duration_text, offset_text, presentation_text, timeline_asked, asked}
use Rattle.resolve.specs.declared.numbers.Numbers.{Numbers}

-- the first of some cannot be read
first_unread : (a : Asked) (as' : List Asked) → some_unread (a ∷ []) ≡ true → some_unread (a ∷ as') ≡ true
first_unread a as' h = or_left (unread a) _ (alone (unread a) h)
  where
    alone : (b : Bool) → (b || false) ≡ true → b ≡ true
    alone b h = grind arith

module _ (t : Tree) (c : Chosen) (i : ℕ) where
  -- what is read, in its order
  abbrev timescale : Asked
  timescale = if_there (whole 1 10000000) (on timescale_text t c)

  abbrev start_number : Asked
  start_number = if_there (whole 0 4294967295) (on start_number_text t c)

  abbrev bandwidth : Asked
  bandwidth = if_there (whole 0 4294967295) (on bandwidth_text t c)

  abbrev upto : List Asked
  upto = on asked_by t (take (i + 2) (on periods t))

  abbrev presentation : Asked
  presentation = must_be_there duration (on presentation_text t c)

  abbrev even : Asked
  even = if_there (whole 1 4294967295) (on duration_text t c)

  abbrev offset : Asked
  offset = if_there (whole 0 9007199254740992) (on offset_text t c)

  abbrev rest : List Asked
  rest = on timeline_asked t (on timeline_in t c)

  abbrev pub last : List Asked
  last = presentation ∷ even ∷ offset ∷ rest

  -- one of them cannot be read
  bandwidth_unread : some_unread (bandwidth ∷ []) ≡ true → some_unread (on asked t c i) ≡ true
  bandwidth_unread h = or_right (unread timescale) _ (or_right (unread start_number) _ (first_unread bandwidth (upto ++ last) h))

  behind : some_unread (upto ++ last) ≡ true → some_unread (on asked t c i) ≡ true
  behind h = or_right (unread timescale) _ (or_right (unread start_number) _ (or_right (unread bandwidth) _ h))

  period_unread : some_unread upto ≡ true → some_unread (on asked t c i) ≡ true
  period_unread h = behind (unread_append upto last ∙ or_left (some_unread upto) _ h)

  last_unread : some_unread last ≡ true → some_unread (on asked t c i) ≡ true
  last_unread h = behind (unread_append upto last ∙ or_right (some_unread upto) _ h)

  pub presentation_unread : some_unread (presentation ∷ []) ≡ true → some_unread last ≡ true
  presentation_unread h = first_unread presentation (even ∷ offset ∷ rest) h

  pub offset_unread : some_unread (offset ∷ []) ≡ true → some_unread last ≡ true
  offset_unread h = or_right (unread presentation) _ (or_right (unread even) _ (first_unread offset rest h))

  -- and so the reading of all is refused
  module _ (answer : Result Numbers ValueFault) (refused : IsErr answer) where
    refuses : some_unread (on asked t c i) ≡ true → ReadsAll (on asked t c i) answer
    refuses h = MatchResult-from_err answer _ _ refused (λ _. h)

    pub at_bandwidth : some_unread (bandwidth ∷ []) ≡ true → ReadsAll (on asked t c i) answer
    at_bandwidth h = refuses (bandwidth_unread h)

    pub at_periods : some_unread upto ≡ true → ReadsAll (on asked t c i) answer
    at_periods h = refuses (period_unread h)

    pub at_last : some_unread last ≡ true → ReadsAll (on asked t c i) answer
    at_last h = refuses (last_unread h)
