-- `call_shown::shown`: four returns, by 1, by 6, and by the two kinds of spot.
use mathlib.Core.Path.{sym, ◌∙◌}
use Rattle.call_shown.proofs.Showing.{spot_shown, shown_1, shown_6}
use Rattle.theorem_sound.proofs.Parts.{sound_parts}
use Rattle.call_shown.proofs.shown.Goals as goal

pub returns-then-area-ne-AREA_SIZE : goal.returns-then-area-ne-AREA_SIZE
returns-then-area-ne-AREA_SIZE c = c.unshown.ensures ∙ shown_1 _ _ _ _ c.if-area-ne-AREA_SIZE.true

pub spot_of-spot-requires : goal.spot_of-spot-requires
spot_of-spot-requires c = (sound_parts _ _ (sym c.is_sound.ensures.0 ∙ c.if-is_sound.true)).count

pub returns-in-At : goal.returns-in-At
returns-in-At c =
    let b = c in
    spot_shown _ _ _ _ _ b.if-area-ne-AREA_SIZE.false
    (sym b.is_sound.ensures.0 ∙ b.if-is_sound.true)
    (sym b.spot_of-spot.ensures ∙ c.in-At.is)

pub returns-in-Nowhere : goal.returns-in-Nowhere
returns-in-Nowhere c =
    let b = c in
    c.unshown-in-Nowhere.ensures
    ∙ spot_shown _ _ _ _ _ b.if-area-ne-AREA_SIZE.false
    (sym b.is_sound.ensures.0 ∙ b.if-is_sound.true)
    (sym b.spot_of-spot.ensures ∙ c.in-Nowhere.is)

pub returns : goal.returns
returns c =
    c.unshown-2.ensures
    ∙ shown_6 _ _ _ _ c.if-area-ne-AREA_SIZE.false
    (sym c.is_sound.ensures.0 ∙ c.if-is_sound.false)
