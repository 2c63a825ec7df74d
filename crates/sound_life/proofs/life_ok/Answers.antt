-- `sound_life::life_ok`: the four returns are `life_part`'s conjuncts in order: GP, internal, name, then selected.
use Rattle.sound_life.proofs.life_ok.Goals as goal

pub returns-then-name_ok : goal.returns-then-name_ok
returns-then-name_ok c =
    let n = c in
    let i = n in
    let g = i in
    rw c.selected_ok.ensures
    (simp (
      ← g.gp_ok.ensures,
      i.if-gp_ok.true,
      ← i.internal_ok.ensures,
      n.if-internal_ok.true,
      ← n.name_ok.ensures,
      c.if-name_ok.true,
    ))

pub returns-else-name_ok : goal.returns-else-name_ok
returns-else-name_ok c =
    let if2 = c.if-internal_ok in
    let i = c in
    let g = i in
    simp (
      ← g.gp_ok.ensures,
      i.if-gp_ok.true,
      ← i.internal_ok.ensures,
      if2.true,
      ← c.name_ok.ensures,
      c.if-name_ok.false,
    )

pub returns-else-internal_ok : goal.returns-else-internal_ok
returns-else-internal_ok c =
    let g = c in
    simp (← g.gp_ok.ensures, c.if-gp_ok.true, ← c.internal_ok.ensures, c.if-internal_ok.false)

pub returns-else-gp_ok : goal.returns-else-gp_ok
returns-else-gp_ok c = simp (← c.gp_ok.ensures, c.if-gp_ok.false)
