-- `sound_card::is_sound`: a count over 31 or a false part (life, load, value) makes `sound` false; else only
-- `descriptors_ok` is left. `places` says the table's length in every return.
use mathlib.Core.Path.{sym, ◌∙◌}
use native.Mathlib.Omega.{arith}
use Rattle.sound_open.proofs.Laws.{count_over, life_fails, load_fails, open_fails, table_left}
use Rattle.sound_card.proofs.is_sound.Goals as goal

pub returns-then-places-l : goal.returns-then-places-l
returns-then-places-l c = (sym (count_over _ _ (omega arith)), c.places.ensures.1)

pub returns-then-value_ok : goal.returns-then-value_ok
returns-then-value_ok c =
    let v = c in
    let d = v in
    let f = d in
    let life = sym f.life_ok.ensures ∙ d.if-life_ok.true in
    let load = sym d.load_ok.ensures ∙ v.if-load_ok.true in
    let value = sym v.value_ok.ensures ∙ c.if-value_ok.true in
    (c.descriptors_ok.ensures ∙ sym (table_left _ _ life load value), f.places.ensures.1)

pub returns-else-value_ok : goal.returns-else-value_ok
returns-else-value_ok c =
    let v = c in
    let d = v in
    let f = d in
    let life = sym f.life_ok.ensures ∙ d.if-life_ok.true in
    let load = sym d.load_ok.ensures ∙ v.if-load_ok.true in (
      sym (open_fails _ _ life load (sym v.value_ok.ensures ∙ c.if-value_ok.false)),
      f.places.ensures.1,
    )

pub returns-else-load_ok : goal.returns-else-load_ok
returns-else-load_ok c =
    let d = c in
    let f = d in
    let life = sym f.life_ok.ensures ∙ d.if-life_ok.true in (
      sym (load_fails _ _ life (sym d.load_ok.ensures ∙ c.if-load_ok.false)),
      f.places.ensures.1,
    )

pub returns-else-life_ok : goal.returns-else-life_ok
returns-else-life_ok c =
    let f = c in
    (sym (life_fails _ _ (sym f.life_ok.ensures ∙ c.if-life_ok.false)), f.places.ensures.1)
