-- Rules that leave the secrets as they are, and what a rule that passed has seen to.
use Prim.Native.Nat.{ℕ, zero, suc, ◌+◌, ◌-◌, ◌%◌, ◌≤◌}
use mathlib.Core.Path.{◌≡◌, refl, ◌∙◌}
use mathlib.Core.Bool.{Bool, true, false, cond, ◌&&◌, and-eq-true_iff}
use mathlib.Core.List.{List, [], ◌∷◌}
use lib.Dec.{eqb, leb}
use lib.ListN.{length, set}
use borrow.Author.Tests.{leb-true}
use Rattle.model.specs.declared.Secret.{Secret}
use Rattle.model.specs.declared.Descriptor.{Descriptor}
use Rattle.model.specs.declared.Open.{Open}
use Rattle.model.specs.declared.Open.TheVariants.{Shut, Table, Record}
use Rattle.model.specs.declared.Head.{Head}
use Rattle.model.specs.declared.Verdict.{Verdict}
use Rattle.model.specs.declared.Verdict.TheVariants.{Passes, Refuses}
use Rattle.model.specs.Table.{descriptor_of, admit_of}
use Rattle.model.specs.Loads.{State, file_list}
use Rattle.model.specs.Rules.{Result, went, asked, failed, Rule, thence, judged, unless, challenged, query, rule_b}
use Rattle.model.specs.Rules.{rule_c, startup, table_done, record_done, described, table_byte, in_table, table_bytes}
use Rattle.model.specs.Rules.{record_bytes}
use Rattle.model.specs.Command.{the_end}
use Rattle.lists.specs.Truth.{same_if}

abbrev pub secrets_of : {A : Type 0} → Result A → List Secret
secrets_of (went a s) = s.load.secrets
secrets_of (asked tag s) = s.load.secrets
secrets_of (failed w s) = s.load.secrets

secrets_if : {A : Type 0} (b : Bool) (x y : Result A) → secrets_of (cond b x y) ≡ cond b (secrets_of x) (secrets_of y)
secrets_if true x y = refl
secrets_if false x y = refl

pub stays_b : (n p1 : ℕ) (b : List ℕ) (h : Head) (s : State) → secrets_of (rule_b n p1 b h s) ≡ s.load.secrets
unfolding rule_b query challenged
stays_b n p1 b h s = simp (secrets_if, same_if)

pub stays_c : (s : State) → secrets_of (rule_c s) ≡ s.load.secrets
unfolding rule_c
stays_c s = simp (secrets_if, same_if)

pub stays_judged : (v : Verdict) (s : State) → secrets_of (judged v s) ≡ s.load.secrets
stays_judged (Passes n) s = refl
stays_judged (Refuses w) s = refl

pub stays_startup : (capacity : ℕ) (v : List ℕ) (s : State) → secrets_of (startup capacity v s) ≡ s.load.secrets
unfolding startup
stays_startup capacity v s = simp (secrets_if, same_if)

pub stays_end : (p1 : ℕ) (s : State) → secrets_of (the_end p1 s) ≡ s.load.secrets
unfolding the_end
stays_end p1 s = simp (secrets_if, same_if)

-- '3100' and 'ssnn'
stays_done : (missing : ℕ) (s : State) → (table_done missing s).load.secrets ≡ s.load.secrets
unfolding table_done
stays_done zero s = refl
stays_done (suc m) s = refl

stays_described : (v : Verdict) (d : Descriptor) (missing : ℕ) (s : State)
    → secrets_of (described v d missing s) ≡ s.load.secrets
stays_described (Passes n) d missing s = stays_done missing _
stays_described (Refuses w) d missing s = refl

stays_byte : (held missing b : ℕ) (s : State) → secrets_of (table_byte held missing b s) ≡ s.load.secrets
unfolding table_byte
stays_byte held missing b s =
    let d = descriptor_of (set s.load.held held b) in
    simp (secrets_if, stays_described (admit_of d (file_list s.load)) d missing s, same_if)

stays_in_table : (o : Open) (b : ℕ) (s : State) → secrets_of (in_table o b s) ≡ s.load.secrets
stays_in_table Shut b s = refl
stays_in_table (Table held missing) b s = stays_byte held (missing - 1) b s
stays_in_table (Record tag written missing) b s = refl

pub stays_thence : {A B : Type 0} (r : Result A) (k : A → Rule B)
    → ((a : A) (s : State) → secrets_of (k a s) ≡ s.load.secrets) → secrets_of (thence r k) ≡ secrets_of r
stays_thence (went a s) k e = e a s
stays_thence (asked tag s) k e = refl
stays_thence (failed w s) k e = refl

pub stays_table : (bs : List ℕ) (s : State) → secrets_of (table_bytes bs s) ≡ s.load.secrets
unfolding table_bytes
stays_table [] s = refl
stays_table (b ∷ bs) s = stays_thence (in_table s.load.running.pending b s) (λ n. table_bytes bs)
    (λ n t. stays_table bs t) ∙ stays_in_table s.load.running.pending b s

stays_record_done : (tag written missing : ℕ) (s : State)
    → (record_done tag written missing s).load.secrets ≡ s.load.secrets
unfolding record_done
stays_record_done tag written zero s = refl
stays_record_done tag written (suc m) s = refl

pub stays_record : (tag written missing : ℕ) (v : List ℕ) (s : State)
    → (record_bytes tag written missing v s).load.secrets ≡ s.load.secrets
unfolding record_bytes
stays_record tag written missing v s = stays_record_done tag (written + length v) (missing - length v) _

-- a rule that judges and passed
pub judged_passes : (v : Verdict) (s : State) (n : ℕ) (t : State) → judged v s ≡ went n t → v ≡ Passes n
judged_passes (Passes m) s n t e = cc
judged_passes (Refuses w) s n t e = cc

pub unless_passes : (ok : Bool) (w : ℕ) (s : State) (n : ℕ) (t : State) → judged (unless ok w) s ≡ went n t
    → ok ≡ true
unless_passes true w s n t e = refl
unless_passes false w s n t e = cc

-- a secret's length, by rules e, f and g
pub secret_size : (room len left : ℕ) → Passes 64 ≡ Passes room
    → (leb 1 len && leb len room && eqb (len % 1) 0) ≡ true
    → leb len left ≡ true → (1 ≤ len) × (len ≤ 64) × (len ≤ left)
secret_size room len left r f g =
    let sizes = ((and-eq-true_iff (leb 1 len && leb len room) (eqb (len % 1) 0)).0 f).0 in
    let both = (and-eq-true_iff (leb 1 len) (leb len room)).0 sizes in
    let room_64 : room ≡ 64 = cc in
    (leb-true 1 len both.0, rw room_64 at (leb-true len room both.1), leb-true len left g)
