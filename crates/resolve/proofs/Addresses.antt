-- Whether addresses can be made, by the parts that they are made from.
use Rattle.std.proofs.Common.{◌≡◌, ℕ, Bool, true, false, not, ◌&&◌, ◌||◌, List, [], is_some, Some, None, Option, MatchOption, unwrap_or, sym, refl, ap, ◌∙◌, arith, Bor}
use Rattle.std.specs.Bool.{then_some}
use Rattle.std.specs.Option.{option_map}
use Rattle.address.specs.Joining.{joined, part_in, parts_of, address_of}
use Rattle.address.specs.declared.Parts.{Parts}
use Rattle.joins.specs.Joints.{misjoined, unjoinable}
use Rattle.template.specs.Reading.{broken, stands}
use Rattle.template.specs.declared.Identifier.TheVariants.{Time}
use Rattle.tree.specs.Trees.{on}
use Rattle.tree.specs.declared.Tree.{Tree}
use Rattle.resolve.specs.Outcome.{media_of, texts_with, texts_by, unaddressed}
use Rattle.resolve.specs.Values.{texts_of, part_by, parts_by}
use Rattle.resolve.specs.declared.prepared.Prepared.{Prepared}

part_same : (base : Option (Bor (List ℕ))) → part_in base ≡ part_by (option_map (λ x. x.now) base)
part_same None = refl
part_same (Some text) = refl

-- the parts are those of the texts
pub parts_same : (p : Parts) (number time : ℕ) → parts_of p number time ≡ parts_by (texts_of p) number time
parts_same p number time =
    let a = part_same p.mpd in
    let b = part_same p.period in
    let c = part_same p.set in
    let d = part_same p.representation in
    cc

-- and so is the address
pub same_address : (p : Parts) (number time : ℕ) → address_of p number time ≡ joined (parts_by (texts_of p) number time)
same_address p number time = ap joined (parts_same p number time)

module _ (t : Tree) (p : Prepared) (media : List ℕ) (is : on media_of t p.chosen ≡ Some media) where
  texts_are : on texts_by t p ≡ on texts_with t p media
  texts_are = ap (λ o. on texts_with t p (unwrap_or o [])) is

  abbrev Late : Bool
  Late = not (is_some p.timeline) && stands Time media

  judged : on unaddressed t p ≡ (Late || misjoined (parts_by (on texts_with t p media) 0 0))
  judged = ap (λ o. not (is_some o) || ((not (is_some p.timeline) && stands Time (unwrap_or o [])) || misjoined (parts_by (on texts_with t p (unwrap_or o [])) 0 0))) is

  module _ (q : Parts) (with : texts_of q ≡ on texts_with t p media) (late : Late ≡ false) (fit : broken (unwrap_or (on media_of t p.chosen) []) ≡ false) where
    joints : on unaddressed t p ≡ unjoinable q 0 0
    joints =
        judged ∙ ap (λ b. b || misjoined (parts_by (on texts_with t p media) 0 0)) late
        ∙ ap (λ x. misjoined (parts_by x 0 0)) (sym with) ∙ ap misjoined (sym (parts_same q 0 0))

    template_whole : broken q.template.now ≡ false
    template_whole = ap (λ x. broken x.template) with ∙ sym (ap (λ o. broken (unwrap_or o [])) is) ∙ fit

    -- the parts, if they can be joined
    pub joinable : (b : Bool) → b ≡ (not (broken q.template.now) && not (unjoinable q 0 0)) → MatchOption (then_some b q) (on unaddressed t p ≡ true) (λ r. (on unaddressed t p ≡ false) × (texts_of r ≡ on texts_by t p))
    joinable true h = (joints ∙ can (broken q.template.now) (unjoinable q 0 0) h, with ∙ sym texts_are)
      where
        can : (a b : Bool) → true ≡ (not a && not b) → b ≡ false
        can a b h = grind arith
    joinable false h = joints ∙ cannot (broken q.template.now) (unjoinable q 0 0) template_whole h
      where
        cannot : (a b : Bool) → a ≡ false → false ≡ (not a && not b) → b ≡ true
        cannot a b e h = grind arith
