-- `call_play::play`: the returns are the cases of `play_of`, 1, 2, 6, 3 and the turn; for `turn` the card is `Good` by
-- `is_sound` and the area's length.
use mathlib.Core.Path.{sym, ◌∙◌}
use native.Mathlib.Omega.{arith}
use borrow.Author.Tests.{eq-eqb, ne_eqb, lt-ltb, le-ltb}
use Rattle.event_replies.proofs.Replies.{refused}
use Rattle.model.specs.Session.{play_of}
use Rattle.call_play.proofs.play.Goals as goal

pub returns-then-area-ne-AREA_SIZE : goal.returns-then-area-ne-AREA_SIZE
unfolding play_of
returns-then-area-ne-AREA_SIZE c = rw (c.refused_by.ensures, ne_eqb _ _ c.if-area-ne-AREA_SIZE.true) (refused 1 _ _ _)

pub returns-then-answer-lt-ANSWER_ROOM : goal.returns-then-answer-lt-ANSWER_ROOM
unfolding play_of
returns-then-answer-lt-ANSWER_ROOM c =
    rw (c.refused_by-then-answer-lt-ANSWER_ROOM.ensures, eq-eqb _ _ c.if-area-ne-AREA_SIZE.false, lt-ltb _ _ c.if-answer-lt-ANSWER_ROOM.true)
    (refused 2 _ _ _)

pub returns-then-r-ne-RECORD_SIZE : goal.returns-then-r-ne-RECORD_SIZE
unfolding play_of
returns-then-r-ne-RECORD_SIZE c =
    rw (
      c.refused_by-then-r-ne-RECORD_SIZE.ensures,
      eq-eqb _ _ c.if-area-ne-AREA_SIZE.false,
      le-ltb _ _ c.if-answer-lt-ANSWER_ROOM.false,
      ← c.is_sound.ensures.0,
      c.if-is_sound.true,
      ne_eqb _ _ c.if-r-ne-RECORD_SIZE.true,
    ) (refused 3 _ _ _)

pub turn-requires : goal.turn-requires
turn-requires c = (
  record {
    sound = sym c.is_sound.ensures.0 ∙ c.if-is_sound.true;
    files = c.is_sound.ensures.1;
    area =
        c.if-area-ne-AREA_SIZE.false;
  },
  omega arith,
  c.if-r-ne-RECORD_SIZE.false,
)

pub returns-then-is_sound : goal.returns-then-is_sound
unfolding play_of
returns-then-is_sound c =
    rw (
      eq-eqb _ _ c.if-area-ne-AREA_SIZE.false,
      le-ltb _ _ c.if-answer-lt-ANSWER_ROOM.false,
      ← c.is_sound.ensures.0,
      c.if-is_sound.true,
      eq-eqb _ _ c.if-r-ne-RECORD_SIZE.false,
    )
    c.turn.ensures

pub returns : goal.returns
unfolding play_of
returns c =
    rw (
      c.refused_by-2.ensures,
      eq-eqb _ _ c.if-area-ne-AREA_SIZE.false,
      le-ltb _ _ c.if-answer-lt-ANSWER_ROOM.false,
      ← c.is_sound.ensures.0,
      c.if-is_sound.false,
    ) (refused 6 _ _ _)
