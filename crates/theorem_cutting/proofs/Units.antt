-- The units of an order that passes: each takes the byte-wise walk from between groupings to between groupings.
use Prim.Native.Nat.{ℕ, zero, suc, ◌+◌, ◌≤◌}
use mathlib.Core.Path.{◌≡◌, refl, sym, ap, ◌∙◌, subst}
use mathlib.Core.Bool.{Bool, true, false}
use mathlib.Core.List.{List, [], ◌∷◌, ◌++◌, append-nil}
use native.Mathlib.Omega.{arith}
use lib.Dec.{leb, lit≤}
use lib.ListN.{length, take, drop, length-take, length-drop}
use lib.Seq.{take-add, drop-drop, length-take-le}
use borrow.Author.Tests.{leb-true, leb-false}
use Rattle.model.specs.declared.Open.{Open}
use Rattle.model.specs.declared.Head.{Head}
use Rattle.model.specs.declared.Header.{Header}
use Rattle.model.specs.declared.Header.TheVariants.{Torn, Whole}
use Rattle.model.specs.Header.{header_of}
use Rattle.model.specs.Loads.{State, with_taken, changed}
use Rattle.model.specs.Rules.{Result, went, asked, failed, thence, does, ◌>>◌, kept}
use Rattle.model.specs.Order.{single, grouping_units, units_by, units_in}
use Rattle.theorem_cutting.specs.Bytewise.{Part, between, value, ending, awaited, begun, step, run, at_end}
use Rattle.theorem_cutting.specs.Bytewise.{Misses, shut}
use Rattle.theorem_cutting.specs.Packs.{longest_unit}
use Rattle.theorem_cutting.proofs.Splits.{run_append, thence_went, failed_not, asked_not}
use Rattle.theorem_cutting.proofs.Opened.{misses_none, Leaves, Rests, step_rests}
use Rattle.theorem_cutting.proofs.Heads.{run_torn, run_whole, run_head, Long, header_long}
use Rattle.theorem_cutting.proofs.Values.{Closed, kept_closed, value_whole, awaited_whole, awaited_short}
use Rattle.theorem_cutting.proofs.Begins.{Begins, fails, opens, awaits, begins_so}
use Rattle.model.proofs.Laws.{units_none}

-- lists of bytes, each of at least 1 and at most `most`, that each take the walk from between groupings to between
-- groupings, and the states that they lead from and to
pub data Chain (capacity most : ℕ) : State → List (List ℕ) → State → Type 0 where
  done : {s s' : State} → s ≡ s' → Chain capacity most s [] s'
  link : {s s₁ s₂ : State} {u : List ℕ} {us : List (List ℕ)} (n : ℕ) → Misses s.load.running.pending n
      → 1 ≤ length u → length u ≤ most
      → run capacity u between s ≡ went between s₁ → Chain capacity most s₁ us s₂ → Chain capacity most s (u ∷ us) s₂

closed_misses : (s : State) → Closed s → Misses s.load.running.pending 0
closed_misses s c = subst (λ (o : Open). Misses o 0) (sym c) shut

module _ (capacity fuel : ℕ) (s' : State) where
  -- the units behind a value, from where it leaves the walk
  abbrev Later : List ℕ → Type 0
  Later left = (s : State) → Closed s → run capacity left between s ≡ went between s'
      → Chain capacity longest_unit s (units_in fuel left) s'

  run_one : (b : ℕ) (s s₁ : State) → step capacity between b s ≡ went between s₁
      → run capacity (b ∷ []) between s ≡ went between s₁
  unfolding run
  run_one b s s₁ e = rw e

  -- the bytes of a value that may run on, one unit each
  value_chain : (rest : List ℕ) (n : ℕ) (s : State) → Misses s.load.running.pending n
      → run capacity rest between s ≡ went between s'
      → Later (drop n rest) → Chain capacity longest_unit s (single (take n rest) ++ units_in fuel (drop n rest)) s'
  unfolding single run
  value_chain rest zero s m e later = later s (misses_none s.load.running.pending m) e
  value_chain [] (suc n) s m e later = let q : s ≡ s' = cc in rw (units_none fuel) (done q)
  value_chain (b ∷ bs) (suc n) s m e later =
      byte (step capacity between b s) refl (step_rests capacity b n s m) e
      (λ s₁ m₁ e₁. value_chain bs n s₁ m₁ e₁ later)
    where
      byte : (r : Result Part) → step capacity between b s ≡ r → Rests (λ s₁. Misses s₁.load.running.pending n) r
          → thence r (λ p. run capacity bs p) ≡ went between s'
          → ((s₁ : State) → Misses s₁.load.running.pending n → run capacity bs between s₁ ≡ went between s'
          → Chain capacity longest_unit s₁ (single (take n bs) ++ units_in fuel (drop n bs)) s')
          → Chain capacity longest_unit s ((b ∷ []) ∷ (single (take n bs) ++ units_in fuel (drop n bs))) s'
      byte (went p s₁) q h g ih = link (suc n) m (lit≤ tt) (lit≤ tt)
          (run_one b s s₁ (q ∙ ap (λ (x : Part). went x s₁) h.0)) (ih s₁ h.1 (rw h.0 at g))
      byte (asked t s₁) q h g ih = absurd (asked_not t s₁ s' between g)
      byte (failed w s₁) q h g ih = absurd (failed_not w s₁ s' between g)

  -- a value that may not run on, alone
  awaited_alone : (row : ℕ) (v : List ℕ) (len : ℕ) (s : State) → length v ≡ len
      → thence (awaited capacity row len s) (λ p. run capacity v p) ≡ ending capacity row v s
  unfolding awaited
  awaited_alone row [] zero s e = unfold run in thence_went (ending capacity row [] s)
  awaited_alone row (b ∷ v) zero s e = absurd (omega arith)
  awaited_alone row v (suc n) s e =
      ap (λ (l : List ℕ). run capacity l (value row n []) s) (sym (append-nil v))
      ∙ value_whole capacity row n v [] [] s e ∙ unfold run in thence_went (ending capacity row v s)

  -- what is kept rests between groupings, with nothing open
  ending_rests : (row : ℕ) (v : List ℕ) (s : State) → Closed s → Rests Closed (ending capacity row v s)
  unfolding ending
  ending_rests row v s c = go (kept capacity row v s) (kept_closed capacity row v s c)
    where
      go : (r : Result ℕ) → Leaves Closed r → Rests Closed (thence r
          (λ a. does (changed (with_taken row)) >> went between))
      go (went a s₁) h = (refl, h)
      go (asked t s₁) h = tt
      go (failed w s₁) h = tt

  module _ (o : List ℕ) (h : Head) (s s₁ : State) (q : header_of o ≡ Whole h) (c : Closed s) where
    abbrev rest : List ℕ
    rest = drop h.size o

    unit_length : (m : ℕ) → m ≤ 64 → (1 ≤ length (take (h.size + m) o))
        × (length (take (h.size + m) o) ≤ longest_unit)
    unit_length m l = let g : Long o h = header_long o h q in rw (length-take (h.size + m) o) (omega arith)

    head_length : (1 ≤ length (take h.size o)) × (length (take h.size o) ≤ longest_unit)
    head_length = let g : Long o h = header_long o h q in rw (length-take h.size o) (omega arith)

    -- a grouping that may not be cut
    whole_run : (row : ℕ) → begun capacity h s ≡ awaited capacity row h.len s₁ → h.len ≤ length rest
        → run capacity (take (h.size + h.len) o) between s ≡ ending capacity row (take h.len rest) s₁
    whole_run row b l =
        ap (λ (u : List ℕ). run capacity u between s) (take-add h.size h.len o)
        ∙ run_append capacity (take h.size o) (take h.len rest) between s
        ∙ ap (λ (r : Result Part). thence r (λ p. run capacity (take h.len rest) p))
        (run_head capacity o h s c q ∙ b)
        ∙ awaited_alone row (take h.len rest) h.len s₁ (length-take-le h.len rest l)

    whole_ended : (row : ℕ) → h.len ≤ 64 → (r : Result Part) → Rests Closed r
        → run capacity (take (h.size + h.len) o) between s ≡ r
        → thence r (λ p. run capacity (drop h.len rest) p) ≡ went between s'
        → Later (drop h.len rest)
        → Chain capacity longest_unit s (take (h.size + h.len) o ∷ units_in fuel (drop (h.size + h.len) o)) s'
    whole_ended row l (went p s₂) k e g later =
        let n : (1 ≤ length (take (h.size + h.len) o)) × (length (take (h.size + h.len) o) ≤ longest_unit) =
        unit_length h.len l in
        rw (← drop-drop h.len h.size o)
        (link 0 (closed_misses s c) n.0 n.1 (e ∙ ap (λ (x : Part). went x s₂) k.0)
        (later s₂ k.1 (rw k.0 at g)))
    whole_ended row l (asked t s₂) k e g later = absurd (asked_not t s₂ s' between g)
    whole_ended row l (failed w s₂) k e g later = absurd (failed_not w s₂ s' between g)

    whole_chain : (row : ℕ) (x : Bool) → leb h.len (length rest) ≡ x → h.len ≤ 64 → Closed s₁
        → begun capacity h s ≡ awaited capacity row h.len s₁
        → thence (awaited capacity row h.len s₁) (λ p. run capacity rest p) ≡ went between s'
        → Later (drop h.len rest)
        → Chain capacity longest_unit s (take (h.size + h.len) o ∷ units_in fuel (drop (h.size + h.len) o)) s'
    whole_chain row true y l c₁ b g later =
        let there : h.len ≤ length rest = leb-true h.len (length rest) y in
        whole_ended row l (ending capacity row (take h.len rest) s₁) (ending_rests row (take h.len rest) s₁ c₁)
        (whole_run row b there) (sym (awaited_whole capacity row h.len rest s₁ there) ∙ g) later
    whole_chain row false y l c₁ b g later =
        absurd (failed_not {A = ℕ} 0x6A80 s₁ s' 0
        (sym (awaited_short (went 0) capacity row h.len rest s₁ (leb-false h.len (length rest) y)) ∙ ap
        (λ (r : Result Part). thence r (at_end (went 0))) g))

    -- a grouping that may
    open_chain : begun capacity h s ≡ went between s₁ → Misses s₁.load.running.pending h.len
        → run capacity rest between s₁ ≡ went between s' → Later (drop h.len rest)
        → Chain capacity longest_unit s
        (take h.size o ∷ (single (take h.len rest) ++ units_in fuel (drop (h.size + h.len) o))) s'
    open_chain b m g later =
        let n : (1 ≤ length (take h.size o)) × (length (take h.size o) ≤ longest_unit) = head_length in
        rw (← drop-drop h.len h.size o)
        (link 0 (closed_misses s c) n.0 n.1 (run_head capacity o h s c q ∙ b)
        (value_chain rest h.len s₁ m g later))

  -- one grouping, by what its header comes to
  grouping_chain : (o : List ℕ) (h : Head) (s : State) → header_of o ≡ Whole h → Closed s → (r : Result Part)
      → begun capacity h s ≡ r → Begins capacity h r
      → thence r (λ p. run capacity (drop h.size o) p) ≡ went between s' → Later (drop h.len (drop h.size o))
      → Chain capacity longest_unit s (grouping_units h o ++ units_in fuel (drop (h.size + h.len) o)) s'
  grouping_chain o h s q c r b (fails w s₁) g later = absurd (failed_not w s₁ s' between g)
  grouping_chain o h s q c r b (opens s₁ sp m) g later = rw sp (open_chain o h s s₁ q c b m g later)
  grouping_chain o h s q c r b (awaits row s₁ sp l c₁) g later =
      rw sp (whole_chain o h s s₁ q c row (leb h.len (length (drop h.size o))) refl l c₁ b g later)

-- the units of bytes that pass
pub units_chain : (fuel capacity : ℕ) (o : List ℕ) (s s' : State) → length o ≤ fuel → Closed s
    → run capacity o between s ≡ went between s'
    → Chain capacity longest_unit s (units_in fuel o) s'
unfolding units_in
units_chain zero capacity [] s s' f c e = let q : s ≡ s' = unfold run in cc in done q
units_chain zero capacity (b ∷ bs) s s' f c e = absurd (omega arith)
units_chain (suc fuel) capacity [] s s' f c e = let q : s ≡ s' = unfold run in cc in done q
units_chain (suc fuel) capacity (b ∷ bs) s s' f c e =
    by_header (header_of (b ∷ bs)) refl (λ left l s₁ c₁ e₁. units_chain fuel capacity left s₁ s' l c₁ e₁)
  where
    by_header : (x : Header) → header_of (b ∷ bs) ≡ x
        → ((left : List ℕ) → length left ≤ fuel → Later capacity fuel s' left)
        → Chain capacity longest_unit s (units_by (λ o. units_in fuel o) x (b ∷ bs)) s'
    by_header Torn q later = absurd (failed_not {A = ℕ} 0x6A80 s s' 0
        (sym (run_torn (went 0) capacity b bs s c q) ∙ ap (λ (r : Result Part). thence r (at_end (went 0))) e))
    by_header (Whole h) q later =
        let g : Long (b ∷ bs) h = header_long (b ∷ bs) h q in
        grouping_chain capacity fuel s' (b ∷ bs) h s q c (begun capacity h s) refl (begins_so capacity h s c)
        (sym (run_whole capacity b bs h s c q) ∙ e)
        (later (drop h.len (drop h.size (b ∷ bs)))
        (rw (length-drop h.len (drop h.size (b ∷ bs)), length-drop h.size (b ∷ bs)) (omega arith)))
