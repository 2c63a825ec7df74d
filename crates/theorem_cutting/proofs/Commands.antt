-- The writer's commands of a complete order: each takes the walk on, and together they take it where the order does.
use Prim.Native.Nat.{ℕ, ◌+◌, ◌≤◌}
use mathlib.Core.Path.{◌≡◌, refl, sym, ap, ◌∙◌}
use mathlib.Core.Bool.{Bool, true, false}
use mathlib.Core.List.{List, [], ◌∷◌, ◌++◌}
use native.Mathlib.Omega.{arith}
use native.Mathlib.Nat.{le_refl}
use lib.Dec.{leb}
use lib.ListN.{length, drop, length-append}
use borrow.Author.Tests.{leb-true, le-leb}
use Rattle.model.specs.declared.Open.{Open}
use Rattle.model.specs.declared.Open.TheVariants.{Shut, Table, Record}
use Rattle.model.specs.declared.Header.{Header}
use Rattle.model.specs.declared.Header.TheVariants.{Torn, Whole}
use Rattle.model.specs.Stored.{data_room}
use Rattle.model.specs.Rows.{taken, with_row, row_table, missing_from, mandatory_missing}
use Rattle.model.specs.Header.{header_of}
use Rattle.model.specs.Loads.{State}
use Rattle.model.specs.Rules.{Result, went, asked, failed, thence, is_query}
use Rattle.model.specs.Command.{walk, ready, the_end, command}
use Rattle.model.specs.Order.{order_limit, challenged_state, finished, complete, units_in, packed, cut_of, records_for}
use Rattle.theorem_cutting.specs.Bytewise.{Part, between, head, value, run, at_end, head_asks, asks, Misses}
use Rattle.theorem_cutting.specs.Packs.{longest_unit, Sized, none, more}
use Rattle.theorem_cutting.specs.Job.{state_of, uncut}
use Rattle.theorem_cutting.proofs.Splits.{run_after, failed_not, asked_not}
use Rattle.theorem_cutting.proofs.Heads.{run_whole}
use Rattle.theorem_cutting.proofs.Walks.{walk_behind, command_run}
use Rattle.theorem_cutting.proofs.Begins.{begun_query}
use Rattle.theorem_cutting.proofs.Units.{Chain, done, link, units_chain}
use Rattle.theorem_cutting.proofs.Packing.{few_commands}
use Rattle.lists.specs.Truth.{never}
use Rattle.model.proofs.Laws.{length_written}

-- a command that passes asks nothing
asks_not : (capacity b : ℕ) (bs : List ℕ) (s s₁ : State) → s.load.running.pending ≡ Shut
    → run capacity (b ∷ bs) between s ≡ went between s₁
    → (x : Header) → header_of (b ∷ bs) ≡ x → head_asks x ≡ false
asks_not capacity b bs s s₁ c e Torn q = refl
asks_not capacity b bs s s₁ c e (Whole h) q = go (is_query h.tag) refl
  where
    go : (y : Bool) → is_query h.tag ≡ y → y ≡ false
    go true g =
        absurd (failed_not 0x6A80 s s₁ between
        (ap (λ (r : Result Part). thence r (λ p. run capacity (drop h.size (b ∷ bs)) p))
        (sym (begun_query capacity h s g)) ∙ sym (run_whole capacity b bs h s c q) ∙ e))
    go false g = refl

passes_unasked : (capacity : ℕ) (u : List ℕ) (s s₁ : State) → 1 ≤ length u
    → run capacity u between s ≡ went between s₁
    → (o : Open) → s.load.running.pending ≡ o → asks o u ≡ false
passes_unasked capacity [] s s₁ l e o c = absurd (omega arith)
passes_unasked capacity (b ∷ bs) s s₁ l e Shut c = asks_not capacity b bs s s₁ c e (header_of (b ∷ bs)) refl
passes_unasked capacity (b ∷ bs) s s₁ l e (Table held missing) c = refl
passes_unasked capacity (b ∷ bs) s s₁ l e (Record tag written missing) c = refl

-- a command that takes the walk from between groupings to between groupings
pub command_passes : (capacity p1 n : ℕ) (u : List ℕ) (s s₁ : State) → Misses s.load.running.pending n
    → 1 ≤ length u
    → run capacity u between s ≡ went between s₁ → command capacity p1 u s ≡ the_end p1 s₁
command_passes capacity p1 n u s s₁ m l e =
    command_run capacity p1 n u s m (passes_unasked capacity u s s₁ l e s.load.running.pending refl)
    ∙ ap (λ (r : Result Part). thence r (at_end (the_end p1))) e

-- units packed into commands
pack_chain : {capacity : ℕ} {s s' : State} {us : List (List ℕ)} → Chain capacity longest_unit s us s'
    → (cur : List ℕ) (s₀ : State) (n : ℕ)
    → Misses s₀.load.running.pending n → 1 ≤ length cur → length cur ≤ data_room
    → run capacity cur between s₀ ≡ went between s
    → Chain capacity data_room s₀ (packed cur us) s'
unfolding packed
pack_chain (done q) cur s₀ n m l h e = link n m l h e (done q)
pack_chain {capacity} {s} {s'} (link {s₁ = s₁} {u = u} {us = us} n₁ m₁ l₁ h₁ e₁ c) cur s₀ n m l h e =
    by_room (leb (length cur + length u) data_room) refl
    (λ f. pack_chain c (cur ++ u) s₀ n m (rw (length-append cur u) (omega arith)) f
    (run_after capacity cur u between between s₀ s e ∙ e₁))
    (pack_chain c u s n₁ m₁ l₁ (omega arith) e₁)
  where
    by_room : (x : Bool) → leb (length cur + length u) data_room ≡ x
        → (length (cur ++ u) ≤ data_room → Chain capacity data_room s₀ (packed (cur ++ u) us) s')
        → Chain capacity data_room s (packed u us) s'
        → Chain capacity data_room s₀ (elim x [ true ↦ packed (cur ++ u) us | false ↦ cur ∷ packed u us ]) s'
    by_room true q f g = f (rw (length-append cur u) (leb-true (length cur + length u) data_room q))
    by_room false q f g = link n m l h e g

packed_first : (u : List ℕ) (us : List (List ℕ)) → length u ≤ data_room → packed [] (u ∷ us) ≡ packed u us
unfolding packed
packed_first u us h = ap (λ (x : Bool). elim x as (λ y. List (List ℕ))
    [ true ↦ packed u us | false ↦ [] ∷ packed u us ]) (le-leb (0 + length u) data_room (omega arith))

cut_first : {capacity : ℕ} {s s' : State} {us : List (List ℕ)} → Chain capacity longest_unit s us s' → ready s ≡ false
    → ready s' ≡ true
    → Chain capacity data_room s (packed [] us) s'
cut_first (done q) f g = absurd (never (sym f ∙ ap ready q ∙ g))
cut_first {capacity} {s} {s'} (link {u = u} {us = us} n m l h e c) f g =
    rw (packed_first u us (omega arith)) (pack_chain c u s n m l (omega arith) e)

-- what a chain says of its lists' lengths
pub chain_sized : {capacity most : ℕ} {s s' : State} {us : List (List ℕ)} → Chain capacity most s us s'
    → Sized 1 most us
chain_sized (done q) = none
chain_sized (link n m l h e c) = more l h (chain_sized c)

-- nothing is loaded before the order
pub not_ready : ready challenged_state ≡ false
unfolding ready mandatory_missing missing_from row_table taken with_row
not_ready = refl

-- where the byte-wise walk ends that the published one says passes
end_between : (r : Result Part) (s : State) → thence {B = ℕ} r (at_end (went 0)) ≡ went 0 s → r ≡ went between s
end_between (went between s₁) s e = let q : s₁ ≡ s = cc in ap (went between) q
end_between (went (head bs) s₁) s e = absurd (failed_not {A = ℕ} 0x6A80 s₁ s 0 e)
end_between (went (value row n bs) s₁) s e = absurd (failed_not {A = ℕ} 0x6A80 s₁ s 0 e)
end_between (asked t s₁) s e = absurd (asked_not {A = ℕ} t s₁ s 0 e)
end_between (failed w s₁) s e = absurd (failed_not {A = ℕ} w s₁ s 0 e)

finished_went : (r : Result ℕ) → finished r ≡ true → thence {B = ℕ} r (λ a. went 0) ≡ went 0 (state_of r)
finished_went (went n s) h = refl
finished_went (asked t s) h = absurd (never h)
finished_went (failed w s) h = absurd (never h)

pub finished_ready : (r : Result ℕ) → finished r ≡ true → ready (state_of r) ≡ true
finished_ready (went n s) h = h
finished_ready (asked t s) h = absurd (never h)
finished_ready (failed w s) h = absurd (never h)

module _ (capacity : ℕ) (order : List ℕ) (complete_so : complete capacity order ≡ true) where
  -- a complete order's bytes pass
  pub complete_run : run capacity order between challenged_state ≡ went between (uncut capacity order)
  unfolding uncut complete
  complete_run =
      end_between (run capacity order between challenged_state) _
      (sym (walk_behind capacity (3 + length order) 0x00 (went 0) order challenged_state (omega arith) refl)
      ∙ finished_went (walk (length order) capacity (3 + length order) 0x00 order challenged_state) complete_so)

  pub complete_ready : ready (uncut capacity order) ≡ true
  unfolding uncut complete
  complete_ready = finished_ready (walk (length order) capacity (3 + length order) 0x00 order challenged_state)
      complete_so

  units : Chain capacity longest_unit challenged_state (units_in (length order) order) (uncut capacity order)
  units = units_chain (length order) capacity order challenged_state (uncut capacity order)
      (le_refl (length order)) refl complete_run

  -- the commands, one after another
  pub cut_chain : Chain capacity data_room challenged_state (cut_of order) (uncut capacity order)
  unfolding cut_of
  cut_chain = cut_first units not_ready complete_ready

  -- each has at least 1 byte and at most 255
  pub cut_sized : Sized 1 data_room (cut_of order)
  cut_sized = chain_sized cut_chain

  -- and each unit at most 69
  pub units_sized : Sized 1 longest_unit (units_in (length order) order)
  units_sized = chain_sized units

  -- 8,192 bytes are 45 records at most
  pub records_few : length order ≤ order_limit → length (records_for order) ≤ 45
  records_few l = let f : length (cut_of order) ≤ 44 =
      few_commands order units_sized l in rw (length_written order) (omega arith)
