-- `call_run::refusal`: a law for each number, `checked_1` and the like; 0 hands on all that the tests found out.
use mathlib.Core.Path.{refl, sym, ◌∙◌}
use Rattle.call_run.proofs.Running.{checked_1, checked_6, checked_3, checked_11}
use Rattle.call_run.proofs.refusal.Goals as goal

pub returns-then-area-ne-AREA_SIZE : goal.returns-then-area-ne-AREA_SIZE
returns-then-area-ne-AREA_SIZE c = checked_1 _ _ _ _ c.if-area-ne-AREA_SIZE.true

pub returns-then-session-ne0 : goal.returns-then-session-ne0
returns-then-session-ne0 c =
    let s = c in
    checked_3 _ _ _ _ s.if-area-ne-AREA_SIZE.false (sym s.is_sound.ensures.0 ∙ c.if-is_sound.true) c.if-session-ne0.true

pub returns-then-words-session : goal.returns-then-words-session
returns-then-words-session c =
    let t = c in
    let s = t in
    checked_11 _ _ _ _ s.if-area-ne-AREA_SIZE.false (sym s.is_sound.ensures.0 ∙ t.if-is_sound.true) c.if-session-ne0.false
    c.if-words-session.true

pub returns-then-is_sound : goal.returns-then-is_sound
returns-then-is_sound c =
    let t = c in
    let s = t in (
      λ _. record {
        area = s.if-area-ne-AREA_SIZE.false;
        sound = sym s.is_sound.ensures.0 ∙ t.if-is_sound.true;
        files = s.is_sound.ensures.1;
        whole = c.if-session-ne0.false;
        room = c.if-words-session.false;
      },
      λ n. absurd (n refl),
    )

pub returns : goal.returns
returns c =
    let s = c in
    checked_6 _ _ _ _ s.if-area-ne-AREA_SIZE.false (sym s.is_sound.ensures.0 ∙ c.if-is_sound.false)
