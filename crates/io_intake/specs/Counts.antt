-- What was read of a job that is none.
use Rattle.std.specs.Prelude.{ℕ, Result, Ok, Err}
use Rattle.io_intake.specs.declared.Unread.{Unread}
use Rattle.io_intake.specs.declared.Unread.TheVariants.{Failed, Wrong}

-- how many bytes stand before what is wrong with a text; else none
abbrev pub count_before : {A : Type 0} → Result A Unread → ℕ
count_before (Ok job) = 0
count_before (Err (Failed why)) = 0
count_before (Err (Wrong fault line column count)) = count
