-- Each rule of the walk, on a veiled state: it does the same, and what it comes to is veiled.
use Prim.Native.Nat.{ℕ, zero, suc, ◌+◌, ◌-◌}
use mathlib.Core.Path.{◌≡◌, refl, ap, subst}
use mathlib.Core.Bool.{false, ◌&&◌}
use mathlib.Core.List.{List, [], ◌∷◌}
use lib.Dec.{eqb}
use lib.ListN.{length, set}
use Rattle.lists.specs.Choice.{by_cond}
use Rattle.model.specs.declared.Descriptor.{Descriptor}
use Rattle.model.specs.declared.Open.{Open}
use Rattle.model.specs.declared.Open.TheVariants.{Shut, Table, Record}
use Rattle.model.specs.declared.Head.{Head}
use Rattle.model.specs.declared.Verdict.{Verdict}
use Rattle.model.specs.declared.Verdict.TheVariants.{Passes, Refuses}
use Rattle.model.specs.Rows.{due}
use Rattle.model.specs.Table.{descriptor_of, admit_of}
use Rattle.model.specs.Loads.{State, file_list, with_internal, with_taken, with_open, with_file, changed}
use Rattle.model.specs.Rules.{Result, went, asked, failed, judged, is_query, challenged, query, rule_b, rule_c, startup}
use Rattle.model.specs.Rules.{table_done, record_done, described, table_byte, in_table, table_bytes, laid, tag_spot}
use Rattle.model.specs.Rules.{record_bytes}
use Rattle.theorem_secrecy.specs.View.{Hiding}
use Rattle.theorem_secrecy.specs.Veil.{veil_state}
use Rattle.theorem_secrecy.proofs.Veils.{veil_result, veil_cond, veil_thence}
use Rattle.model.proofs.Laws.{Stops, query_stops}

pub no_query : (n p1 : ℕ) (b : List ℕ) (h : Head) (s : State) (a : ℕ) (s' : State) → rule_b n p1 b h s ≡ went a s'
    → is_query h.tag ≡ false
unfolding rule_b
no_query n p1 b h s a s' =
    by_cond (λ (r : Result ℕ). r ≡ went a s' → is_query h.tag ≡ false) (is_query h.tag)
    (λ q e. absurd (subst Stops e (query_stops n p1 b h s)))
    (λ q e. q)

module _ (z : Hiding) where
  veil_challenged : (s : State) → challenged (veil_state z s) ≡ veil_result z (challenged s)
  unfolding challenged
  veil_challenged s =
      veil_cond z (eqb s.load.running.internal 0xCC && due s.load.running.rows
      s.load.running.last 1 0x9484) (asked 0x9484 (changed (with_taken 1) s)) (failed 0x6985 s)

  -- rule b reads how many bytes there are, and none of them
  veil_query : (n p1 : ℕ) (v b : List ℕ) (h : Head) (s : State) → length v ≡ length b
      → query n p1 v h (veil_state z s) ≡ veil_result z (query n p1 b h s)
  unfolding query
  veil_query n p1 v b h s e = rw (e, veil_challenged s) (simp (← veil_cond z))

  pub veil_b : (n p1 : ℕ) (v b : List ℕ) (h : Head) (s : State) → length v ≡ length b
      → rule_b n p1 v h (veil_state z s) ≡ veil_result z (rule_b n p1 b h s)
  unfolding rule_b
  veil_b n p1 v b h s e = rw (veil_query n p1 v b h s e) (veil_cond z (is_query h.tag) (query n p1 b h s)
      (went 0 s))

  pub veil_c : (s : State) → rule_c (veil_state z s) ≡ veil_result z (rule_c s)
  unfolding rule_c
  veil_c s = veil_cond z (eqb s.load.running.internal 0xA5) (failed 0x6985 s)
      (went 0 (changed (with_internal 0x5A) s))

  pub veil_judged : (v : Verdict) (s : State) → judged v (veil_state z s) ≡ veil_result z (judged v s)
  veil_judged (Passes n) s = refl
  veil_judged (Refuses w) s = refl

  -- '2100'
  pub veil_startup : (capacity : ℕ) (v : List ℕ) (s : State)
      → startup capacity v (veil_state z s) ≡ veil_result z (startup capacity v s)
  unfolding startup
  veil_startup capacity v s = simp (← veil_cond z)

  -- '3100', byte by byte
  veil_done : (missing : ℕ) (s : State) → table_done missing (veil_state z s) ≡ veil_state z (table_done missing s)
  unfolding table_done
  veil_done zero s = refl
  veil_done (suc m) s = refl

  veil_described : (v : Verdict) (d : Descriptor) (missing : ℕ) (s : State)
      → described v d missing (veil_state z s) ≡ veil_result z (described v d missing s)
  veil_described (Passes n) d missing s = ap (λ (t : State). went 0 t) (veil_done missing (changed (with_file d) s))
  veil_described (Refuses w) d missing s = refl

  veil_byte : (held missing b : ℕ) (s : State) → table_byte held missing b (veil_state z s)
      ≡ veil_result z (table_byte held missing b s)
  unfolding table_byte
  veil_byte held missing b s =
      let bytes = set s.load.held held b in
      let d = descriptor_of bytes in
      rw (veil_described (admit_of d (file_list s.load)) d missing s)
      (veil_cond z (eqb (held + 1) 18) (described (admit_of d (file_list s.load)) d missing s)
      (went 0 (changed (with_open (Table (held + 1) missing) bytes) s)))

  veil_in_table : (o : Open) (b : ℕ) (s : State) → in_table o b (veil_state z s) ≡ veil_result z (in_table o b s)
  veil_in_table Shut b s = refl
  veil_in_table (Table held missing) b s = veil_byte held (missing - 1) b s
  veil_in_table (Record tag written missing) b s = refl

  pub veil_table : (bs : List ℕ) (s : State) → table_bytes bs (veil_state z s) ≡ veil_result z (table_bytes bs s)
  unfolding table_bytes
  veil_table [] s = refl
  veil_table (b ∷ bs) s =
      rw (veil_in_table s.load.running.pending b s)
      (veil_thence z (in_table s.load.running.pending b s) (λ n. table_bytes bs) (λ n t. veil_table bs t))

  -- 'ssnn'
  veil_record_done : (tag written missing : ℕ) (s : State)
      → record_done tag written missing (veil_state z s) ≡ veil_state z (record_done tag written missing s)
  unfolding record_done
  veil_record_done tag written zero s = refl
  veil_record_done tag written (suc m) s = refl

  pub veil_record : (tag written missing : ℕ) (v : List ℕ) (s : State)
      → record_bytes tag written missing v (veil_state z s) ≡ veil_state z (record_bytes tag written missing v s)
  unfolding record_bytes
  veil_record tag written missing v s =
      veil_record_done tag (written + length v) (missing - length v)
      (record { load = s.load; area = laid (tag_spot (file_list s.load) tag) written v s.area })
