-- A grouping takes bytes: fewer are left behind it.
use Prim.Native.Nat.{ℕ, ◌-◌, ◌≤◌}
use mathlib.Core.Path.{◌≡◌, refl}
use mathlib.Core.List.{List, ◌∷◌}
use lib.ListN.{length, take, drop, length-drop}
use native.Mathlib.Omega.{arith}
use Rattle.lists.specs.Choice.{by_cond}
use Rattle.model.specs.declared.Head.{Head}
use Rattle.model.specs.declared.Header.{Header}
use Rattle.model.specs.declared.Header.TheVariants.{Torn, Whole}
use Rattle.model.specs.declared.Open.{Open}
use Rattle.model.specs.declared.Open.TheVariants.{Shut, Table, Record}
use Rattle.model.specs.Rows.{row_at}
use Rattle.model.specs.Header.{header_of}
use Rattle.model.specs.Loads.{State, with_open, changed}
use Rattle.model.specs.Rules.{Result, went, asked, failed, Rule, thence, kept, table_bytes, feeding, fed, opened_as}
use Rattle.model.specs.Rules.{spanned, whole, rule_b, rule_c, rule_d, rule_e, rule_f, rule_g, rule_h, grouping}
use Rattle.theorem_sound.specs.Keeps.{Ends}
use Rattle.walk_course.proofs.Chains.{a_whole, a_torn, head_sized}

-- no more than n bytes are left where a rule goes on
abbrev pub Shorter : ℕ → Result (List ℕ) → Type 0
Shorter n r = Ends (λ left t. length left ≤ n) (λ t. Unit {0}) r

after : {A : Type 0} (n : ℕ) (r : Result A) (k : A → Rule (List ℕ)) → ((a : A) (t : State) → Shorter n (k a t))
    → Shorter n (thence r k)
after n (went a t) k h = h a t
after n (asked q t) k h = tt
after n (failed w t) k h = tt

dropped : (n m : ℕ) (bytes : List ℕ) → length bytes ≤ n → length (drop m bytes) ≤ n
dropped n m bytes h = rw length-drop (omega arith)

feeding_shorter : (n : ℕ) (o : Open) (bytes : List ℕ) (s : State) → length bytes ≤ n → Shorter n (feeding o bytes s)
feeding_shorter n Shut bytes s h = h
feeding_shorter n (Table held m) bytes s h = after n (table_bytes (take m bytes) s) (λ k. went (drop m bytes))
    (λ a t. dropped n m bytes h)
feeding_shorter n (Record tag w m) bytes s h = dropped n m bytes h

spanned_shorter : (n row : ℕ) (h : Head) (bytes : List ℕ) (s : State) → length bytes ≤ n
    → Shorter n (spanned row h bytes s)
unfolding spanned fed
spanned_shorter n row h bytes s i =
    feeding_shorter n (opened_as row h.tag h.len) bytes
    (changed (λ l. with_open (opened_as row h.tag h.len) l.held l) s) i

whole_shorter : (n capacity row : ℕ) (h : Head) (bytes : List ℕ) (s : State) → length bytes ≤ n
    → Shorter n (whole capacity row h bytes s)
unfolding whole
whole_shorter n capacity row h bytes s i = after n (kept capacity row (take h.len bytes) s) _
    (λ a t. dropped n h.len bytes i)

rule_h_shorter : (n capacity row : ℕ) (h : Head) (bytes : List ℕ) (s : State) → length bytes ≤ n
    → Shorter n (rule_h capacity row h bytes s)
unfolding rule_h
rule_h_shorter n capacity row h bytes s i =
    by_cond (λ (m : Rule (List ℕ)). Shorter n (m s)) (row_at row).spans
    (λ e. spanned_shorter n row h bytes s i)
    (λ e. whole_shorter n capacity row h bytes s i)

pub grouping_shorter : (capacity n p1 b : ℕ) (bs : List ℕ) (s : State)
    → Shorter (length bs) (grouping capacity n p1 (b ∷ bs) s)
grouping_shorter capacity n p1 b bs s = go (header_of (b ∷ bs)) refl
  where
    m : ℕ
    m = length bs

    go : (x : Header) → header_of (b ∷ bs) ≡ x → Shorter m (grouping capacity n p1 (b ∷ bs) s)
    go Torn e = rw (a_torn capacity n p1 (b ∷ bs) s e) tt
    go (Whole h) e =
        let z : 1 ≤ h.size = head_sized (b ∷ bs) h e in
        let i : length (drop h.size (b ∷ bs)) ≤ m = rw length-drop (omega arith) in
        rw (a_whole capacity n p1 (b ∷ bs) s h e)
        (after m (rule_b n p1 (b ∷ bs) h s) _
        (λ a t. after m (rule_c t) _
        (λ a t. after m (rule_d h.tag t) _
        (λ row t. after m (rule_e row h.tag t) _
        (λ room t. after m (rule_f row room h.len t) _
        (λ a t. after m (rule_g row h.len (length (b ∷ bs) - h.size) t) _
        (λ a t. rule_h_shorter m capacity row h (drop h.size (b ∷ bs)) t i)))))))
