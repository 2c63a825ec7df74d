-- What the card keeps of a grouping, a command and a record is what the marks say: the marked bytes, each in its
-- place, and no other.
use Prim.Native.Nat.{ℕ, ◌-◌, ◌≤◌}
use mathlib.Core.Path.{◌≡◌, refl, sym, ◌∙◌}
use mathlib.Core.Bool.{Bool, true, false, ◌||◌, true≢false}
use mathlib.Core.List.{List, ◌++◌}
use lib.Dec.{eqb, leb}
use lib.ListN.{length, take, drop, length-append, length-replicate, length-drop}
use lib.Seq.{drop-drop}
use Rattle.lists.specs.Choice.{by_cond}
use Rattle.model.specs.declared.Secret.{Secret}
use Rattle.model.specs.declared.Descriptor.{Descriptor}
use Rattle.model.specs.declared.Open.{Open}
use Rattle.model.specs.declared.Open.TheVariants.{Shut, Table, Record}
use Rattle.model.specs.declared.Head.{Head}
use Rattle.model.specs.declared.Header.{Header}
use Rattle.model.specs.declared.Header.TheVariants.{Torn, Whole}
use Rattle.model.specs.declared.Verdict.{Verdict}
use Rattle.model.specs.declared.Verdict.TheVariants.{Passes}
use Rattle.model.specs.Rows.{row_of, row_at, row_table, due}
use Rattle.model.specs.Header.{header_of}
use Rattle.model.specs.Loads.{State, file_list, with_taken, with_open, with_secret, changed}
use Rattle.model.specs.Rules.{Result, went, asked, failed, Rule, thence, judged, unless, whole_head, is_query, rule_a}
use Rattle.model.specs.Rules.{rule_b, rule_c, rule_d, rule_e, rule_f, rule_g, rule_h, due_row, room_of, length_ok, kept}
use Rattle.model.specs.Rules.{opened_as, feeding, fed, spanned, whole, table_bytes, record_bytes, grouping}
use Rattle.theorem_secrecy.specs.View.{Mark, seen, seens, secret_marks, value_marks, grouping_marks, missing_in}
use Rattle.theorem_secrecy.specs.Kept.{kept_by}
use Rattle.theorem_secrecy.proofs.Veils.{kept_as}
use Rattle.theorem_secrecy.proofs.Rules.{no_query}
use Rattle.model.specs.Stages.{from_b, from_c, from_d, from_e, from_f, from_g}
use Rattle.theorem_secrecy.proofs.RowCases.{row_cases}
use Rattle.theorem_secrecy.proofs.Places.{kept_append, kept_seen, length_secret_marks, secret_kept}
use Rattle.theorem_secrecy.proofs.Stays.{secrets_of, stays_b, stays_c, stays_judged, stays_startup, stays_table}
use Rattle.theorem_secrecy.proofs.Stays.{stays_record, judged_passes, unless_passes, secret_size}

-- a rule came to r on bytes b, and the secrets were xs: where it passed it took the bytes that `front` marks, and
-- kept those that are a secret's; where it did not, it kept nothing
abbrev pub Keeps : List Mark → List ℕ → List Secret → Result (List ℕ) → Type 0
Keeps front b xs (went left s) = (left ≡ drop (length front) b) × (s.load.secrets ≡ kept_by front b xs)
Keeps front b xs (asked tag s) = s.load.secrets ≡ xs
Keeps front b xs (failed w s) = s.load.secrets ≡ xs

keeps_then : {A : Type 0} (front : List Mark) (b : List ℕ) (xs : List Secret) (r : Result A) (k : A → Rule (List ℕ))
    → secrets_of r ≡ xs → ((a : A) (s : State) → r ≡ went a s → s.load.secrets ≡ xs → Keeps front b xs (k a s))
    → Keeps front b xs (thence r k)
keeps_then front b xs (went a s) k p q = q a s refl p
keeps_then front b xs (asked tag s) k p q = p
keeps_then front b xs (failed w s) k p q = p

-- bytes that are seen
keeps_seen : (n : ℕ) (b : List ℕ) (xs : List Secret) (s : State) → s.load.secrets ≡ xs
    → Keeps (seens n) b xs (went (drop n b) s)
keeps_seen n b xs s e = (rw length-replicate, e ∙ sym (kept_seen n b xs))

keeps_behind : (n : ℕ) (front : List Mark) (b : List ℕ) (xs : List Secret) (r : Result (List ℕ))
    → Keeps front (drop n b) xs r → Keeps (seens n ++ front) b xs r
keeps_behind n front b xs (went left s) k = (
  k.0 ∙ rw (drop-drop (length front) n b, length-append (seens n) front, length-replicate n seen),
  k.1 ∙ rw (kept_append (seens n) front b xs, kept_seen n b xs, length-replicate n seen),
)
keeps_behind n front b xs (asked tag s) k = k
keeps_behind n front b xs (failed w s) k = k

keeps_feeding : (o : Open) (b : List ℕ) (s : State) → Keeps (seens (missing_in o)) b s.load.secrets (feeding o b s)
keeps_feeding Shut b s = keeps_seen 0 b s.load.secrets s refl
keeps_feeding (Table held missing) b s =
    keeps_then (seens missing) b s.load.secrets (table_bytes (take missing b) s) (λ n. went (drop missing b))
    (stays_table (take missing b) s)
    (λ n t _ e. keeps_seen missing b s.load.secrets t e)
keeps_feeding (Record tag written missing) b s =
    keeps_seen missing b s.load.secrets (record_bytes tag written missing (take missing b) s)
    (stays_record tag written missing (take missing b) s)

pub keeps_fed : (b : List ℕ) (s : State) → Keeps (seens (missing_in s.load.running.pending)) b s.load.secrets
    (fed b s)
unfolding fed
keeps_fed b s = keeps_feeding s.load.running.pending b s

keeps_spanned : (row : ℕ) (h : Head) (b : List ℕ) (s : State) → missing_in (opened_as row h.tag h.len) ≡ h.len
    → Keeps (seens h.len) b s.load.secrets (spanned row h b s)
unfolding spanned
keeps_spanned row h b s e =
    rw e at (keeps_fed b (changed (λ l. with_open (opened_as row h.tag h.len) l.held l) s))

keeps_fact : (capacity row : ℕ) (h : Head) (b : List ℕ) (s : State)
    → secrets_of (kept capacity row (take h.len b) s) ≡ s.load.secrets
    → Keeps (seens h.len) b s.load.secrets (whole capacity row h b s)
unfolding whole
keeps_fact capacity row h b s e =
    keeps_then (seens h.len) b s.load.secrets (kept capacity row (take h.len b) s)
    (λ a t. went (drop h.len b) (changed (with_taken row) t)) e
    (λ a t _ p. keeps_seen h.len b s.load.secrets (changed (with_taken row) t) p)

keeps_secret : (k row : ℕ) (h : Head) (b : List ℕ) (s : State) → (1 ≤ h.len) × (h.len ≤ 64) × (h.len ≤ length b)
    → Keeps (secret_marks k 0 h.len) b s.load.secrets
    (went (drop h.len b) (changed (with_taken row) (changed (with_secret k (kept_as (take h.len b))) s)))
keeps_secret k row h b s size =
    (rw length_secret_marks, sym (secret_kept k h.len b s.load.secrets size.0 size.1 size.2))

-- the rows, one by one; what rules e, f and g have seen to
module _ (capacity : ℕ) (h : Head) (b : List ℕ) (s : State) (files : List Descriptor) (room : ℕ) where
  abbrev KeepsRow : ℕ → Type 0
  KeepsRow row =
      eqb row 0 ≡ false → room_of files row h.tag ≡ Passes room → length_ok row room h.len ≡ true
      → ((row_at row).spans || leb h.len (length b)) ≡ true
      → Keeps (value_marks row h.len) b s.load.secrets (rule_h capacity row h b s)

  keeps_row : is_query h.tag ≡ false → KeepsRow (row_of h.tag)
  unfolding rule_h row_at row_table whole kept room_of
  keeps_row q =
      row_cases KeepsRow h.tag q
      (λ e. absurd (true≢false e))
      (λ _ _ _ _. keeps_fact capacity 2 h b s refl)
      (λ _ _ _ _. keeps_fact capacity 3 h b s (stays_startup capacity (take h.len b) s))
      (λ _ _ _ _. keeps_fact capacity 4 h b s refl)
      (λ _ _ _ _. keeps_spanned 5 h b s refl)
      (λ _ e f g. keeps_secret 0 6 h b s (secret_size room h.len (length b) e f g))
      (λ _ e f g. keeps_secret 1 7 h b s (secret_size room h.len (length b) e f g))
      (λ _ e f g. keeps_secret 2 8 h b s (secret_size room h.len (length b) e f g))
      (λ _ e f g. keeps_secret 3 9 h b s (secret_size room h.len (length b) e f g))
      (λ _ e f g. keeps_secret 4 10 h b s (secret_size room h.len (length b) e f g))
      (λ _ _ _ _. keeps_spanned 11 h b s refl)

-- rules b to h, the last first
module _ (capacity : ℕ) (h : Head) (b : List ℕ) where
  abbrev front : List Mark
  front = grouping_marks (Whole h)

  abbrev row : ℕ
  row = row_of h.tag

  keeps_g : (s : State) (files : List Descriptor) (room : ℕ) → is_query h.tag ≡ false → eqb row 0 ≡ false
      → room_of files row h.tag ≡ Passes room
      → length_ok row room h.len ≡ true → Keeps front b s.load.secrets (from_g capacity row h b s)
  unfolding rule_g
  keeps_g s files room q e r f =
      keeps_then front b s.load.secrets (judged (unless fits 0x6A80) s)
      (λ a. rule_h capacity row h (drop h.size b)) (stays_judged (unless fits 0x6A80) s)
      (λ a t g p. rw (← p)
      (keeps_behind h.size (value_marks row h.len) b t.load.secrets
      (rule_h capacity row h (drop h.size b) t)
      (keeps_row capacity h (drop h.size b) t files room q e r f
      (rw length-drop (unless_passes fits 0x6A80 s a t g)))))
    where
      fits : Bool
      fits = (row_at row).spans || leb h.len (length b - h.size)

  keeps_f : (s : State) (files : List Descriptor) (room : ℕ) → is_query h.tag ≡ false → eqb row 0 ≡ false
      → room_of files row h.tag ≡ Passes room
      → Keeps front b s.load.secrets (from_f capacity row room h b s)
  unfolding rule_f
  keeps_f s files room q e r =
      keeps_then front b s.load.secrets (judged (unless (length_ok row room h.len) 0x6700) s)
      (λ a. from_g capacity row h b)
      (stays_judged (unless (length_ok row room h.len) 0x6700) s)
      (λ a t f p. rw (← p) (keeps_g t files room q e r (unless_passes (length_ok row room h.len) 0x6700 s a t f)))

  keeps_e : (s : State) → is_query h.tag ≡ false → eqb row 0 ≡ false
      → Keeps front b s.load.secrets (from_e capacity row h b s)
  unfolding rule_e
  keeps_e s q e =
      keeps_then front b s.load.secrets (judged (room_of (file_list s.load) row h.tag) s)
      (λ room. from_f capacity row room h b)
      (stays_judged (room_of (file_list s.load) row h.tag) s)
      (λ room t r p. rw (← p) (keeps_f t (file_list s.load) room q e
      (judged_passes (room_of (file_list s.load) row h.tag) s room t r)))

  keeps_d : (s : State) → is_query h.tag ≡ false → Keeps front b s.load.secrets (from_d capacity h b s)
  unfolding rule_d due_row
  keeps_d s q =
      by_cond Judged (eqb row 0) (λ _. refl)
      (λ e. by_cond Judged (due s.load.running.rows s.load.running.last row h.tag) (λ _. keeps_e s q e)
      (λ _. refl))
    where
      Judged : Verdict → Type 0
      Judged v = Keeps front b s.load.secrets (thence (judged v s) (λ x. from_e capacity x h b))

  keeps_c : (s : State) → is_query h.tag ≡ false → Keeps front b s.load.secrets (from_c capacity h b s)
  keeps_c s q = keeps_then front b s.load.secrets (rule_c s) (λ a. from_d capacity h b) (stays_c s)
      (λ a t _ p. rw (← p) (keeps_d t q))

  keeps_b : (n p1 : ℕ) (s : State) → Keeps front b s.load.secrets (from_b capacity n p1 h b s)
  keeps_b n p1 s =
      keeps_then front b s.load.secrets (rule_b n p1 b h s) (λ a. from_c capacity h b) (stays_b n p1 b h s)
      (λ a t e p. rw (← p) (keeps_c t (no_query n p1 b h s a t e)))

keeps_a : (capacity n p1 : ℕ) (b : List ℕ) (s : State) (x : Header)
    → Keeps (grouping_marks x) b s.load.secrets (thence (whole_head x s) (λ h. from_b capacity n p1 h b))
keeps_a capacity n p1 b s Torn = refl
keeps_a capacity n p1 b s (Whole h) = keeps_b capacity h b n p1 s

pub keeps_grouping : (capacity n p1 : ℕ) (b : List ℕ) (s : State)
    → Keeps (grouping_marks (header_of b)) b s.load.secrets (grouping capacity n p1 b s)
unfolding grouping rule_a
keeps_grouping capacity n p1 b s = keeps_a capacity n p1 b s (header_of b)
