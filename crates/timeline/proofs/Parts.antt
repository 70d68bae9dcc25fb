-- The parts of each segment make up its length, and so do those of all.
use Rattle.std.proofs.Common.{ℕ, ◌+◌, ◌-◌, [], ◌∷◌, refl, inl, inr, arith}
use Rattle.std.proofs.lemmas.List.Sums.{sum_by-cons}
use Rattle.std.proofs.lemmas.Bool.{cases_lt, lt-ltb, le-ltb}
use Rattle.timeline.specs.declared.segment.Segment.{Segment}
use Rattle.timeline.specs.Segments.{end}
use Rattle.timeline.specs.Layers.{earlier, shifted, shortened, cut_off}
use Rattle.timeline.specs.Theorems.{part_before, part_after, PartsAddUp}

abbrev long : Segment → ℕ
long s = s.length

pub parts_add_up : PartsAddUp
parts_add_up [] o c = refl
parts_add_up (x ∷ xs) o c =
    let more = parts_add_up xs o c in
    let rest = cut_off c (shifted o xs) in
    let all = sum_by-cons long x xs in
    let before = sum_by-cons (part_before o) x xs in
    let after = sum_by-cons (part_after (o + c)) x xs in
    let listed = sum_by-cons long (shortened c (earlier o x)) rest in
    elim (cases_lt o (end x)) [
      | inl ends ↦ elim (cases_lt (x.start - o) c) [
        | inl starts ↦ rw (lt-ltb o (end x) ends, lt-ltb (x.start - o) c starts) (omega arith)
        | inr late ↦ rw (lt-ltb o (end x) ends, le-ltb (x.start - o) c late) (omega arith)
      ]
      | inr over ↦ rw (le-ltb o (end x) over) (omega arith)
    ]
