-- Where seek goes, and what it answers.
use Rattle.std.proofs.Common.{◌≡◌, ℕ, ◌+◌, ◌<◌, ◌≤◌, true, false, List, length, Err, Option, sym, ap, ◌∙◌, subst, inl, inr, arith}
use Rattle.std.proofs.lemmas.Bool.{le-leb, and_from, cases_Bool}
use Rattle.timeline.specs.declared.segment.Segment.{Segment}
use Rattle.timeline.specs.Segments.{Sound, ended_by, within_of}
use Rattle.head.specs.declared.fault.HeadFault.TheVariants.{OutOfRange, NoneCovers, TwoCover}
use Rattle.head.specs.Heads.{Way, to, refused, seekable, tick_of, the_only, covering, sought, reply, arrived, Seeks}
use Rattle.head.proofs.Covers.{cover_cases, cover_count}

module _ (xs : List Segment) (ok : Sound xs) (timescale ms : ℕ) where
  pub in_range : seekable timescale ms ≡ true → {places : List ℕ} → covering xs (tick_of timescale ms) ≡ places → sought xs timescale ms ≡ the_only places
  in_range may e = rw (may, e)

  pub out_of_range : seekable timescale ms ≡ false → sought xs timescale ms ≡ refused OutOfRange
  out_of_range not' = rw not'

  -- seek never finds two
  never : {places : List ℕ} → covering xs (tick_of timescale ms) ≡ places → (reply (the_only places) ≡ Err TwoCover → ⊥) → reply (sought xs timescale ms) ≡ Err TwoCover → ⊥
  never at few two =
      elim (cases_Bool (seekable timescale ms)) [
        | inl may ↦ few (ap reply (sym (in_range may at)) ∙ two)
        | inr not' ↦ let out = ap reply (out_of_range not') in cc
      ]

  -- the law of seek
  seeks : (place : Option ℕ) → Seeks xs timescale ms (arrived place (sought xs timescale ms)) (reply (sought xs timescale ms))
  seeks place =
      elim (cover_cases xs ok (tick_of timescale ms)) [
        | inl empty ↦ record {
          out = λ not'. ap reply (out_of_range not');
          few = rw empty (omega arith);
          one = λ may one. absurd (omega (arith, ap length empty));
          none = λ may none. ap reply (in_range may empty);
          never = never empty (λ two. cc);
        }
        | inr sole ↦ record {
          out = λ not'. ap reply (out_of_range not');
          few = rw sole.0 (omega arith);
          one = λ may one. (ap reply (in_range may sole.0), (ended_by xs (tick_of timescale ms), ap (arrived place) (in_range may sole.0), sole.1));
          none = λ may none. absurd (omega (arith, ap length sole.0));
          never = never sole.0 (λ two. cc);
        }
      ]

  -- the same, where the way that seek goes is known
  pub seeks_by : (place : Option ℕ) (w : Way) → sought xs timescale ms ≡ w → Seeks xs timescale ms (arrived place w) (reply w)
  seeks_by place w e = subst (λ v. Seeks xs timescale ms (arrived place v) (reply v)) e (seeks place)

  module _ (late : ms ≤ 100000000000) (low : 1 ≤ timescale) (high : timescale ≤ 10000000) where
    may : seekable timescale ms ≡ true
    may = and_from _ _ (le-leb _ _ late) (and_from _ _ (le-leb _ _ low) (le-leb _ _ high))

    pub none_found : within_of xs (tick_of timescale ms) (tick_of timescale ms + 1) ≡ 0 → sought xs timescale ms ≡ refused NoneCovers
    none_found none =
        elim (cover_cases xs ok (tick_of timescale ms)) [
          | inl empty ↦ in_range may empty
          | inr sole ↦ absurd (omega (arith, ap length sole.0, cover_count xs (tick_of timescale ms)))
        ]

    pub one_found : 0 < within_of xs (tick_of timescale ms) (tick_of timescale ms + 1) → sought xs timescale ms ≡ to (ended_by xs (tick_of timescale ms))
    one_found some =
        elim (cover_cases xs ok (tick_of timescale ms)) [
          | inl empty ↦ let z = ap length empty in absurd (omega (arith, cover_count xs (tick_of timescale ms)))
          | inr sole ↦ in_range may sole.0
        ]

  pub never_two : 1 < within_of xs (tick_of timescale ms) (tick_of timescale ms + 1) → ⊥
  never_two two =
      elim (cover_cases xs ok (tick_of timescale ms)) [
        | inl empty ↦ let z = ap length empty in omega (arith, cover_count xs (tick_of timescale ms))
        | inr sole ↦ let z = ap length sole.0 in omega (arith, cover_count xs (tick_of timescale ms))
      ]
