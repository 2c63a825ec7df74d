-- `life_install::named`: the form says that the name lies within the data and is at most 16 bytes; P1 '04' gives
-- '03' and the other '07', both by `life_named`.
use borrow.Author.Tests.{eq-eqb, ne_eqb}
use Rattle.life_names.proofs.Install.{install_ends, install_fits, life_named}
use Rattle.life_install.proofs.named.Goals as goal

pub slice_bounds-padded16-end : goal.slice_bounds-padded16-end
slice_bounds-padded16-end c =
    let p = c.places_in-p in
    let s = c in
    install_ends s.args.d.now p.result p.ensures.0 s.requires

pub padded16-name-requires : goal.padded16-name-requires
padded16-name-requires c =
    let p = c.places_in-p in
    let s = c in
    install_fits s.args.d.now p.result p.ensures.0 s.requires

pub returns-then-p1-eq4 : goal.returns-then-p1-eq4
returns-then-p1-eq4 c =
    let p = c.places_in-p in
    let a = c.args in
    life_named a.d.now p.result p.ensures.0 a.life a.p1 0x03 _
    (rw (eq-eqb a.p1 0x04 c.if-p1-eq4.true)) c.padded16-name.ensures

pub returns : goal.returns
returns c =
    let p = c.places_in-p in
    let a = c.args in
    life_named a.d.now p.result p.ensures.0 a.life a.p1 0x07 _
    (rw (ne_eqb a.p1 0x04 c.if-p1-eq4.false)) c.padded16-name.ensures
