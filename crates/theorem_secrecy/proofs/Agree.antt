-- Lists that agree in all but the marked bytes.
use Prim.Native.Nat.{ℕ, zero, suc, ◌+◌, ◌-◌, ◌≤◌, ◌<◌}
use mathlib.Core.Path.{◌≡◌, refl, ap, sym, ◌∙◌, subst}
use mathlib.Core.Bool.{Bool, true, false, cond, not, true≢false}
use mathlib.Core.List.{List, [], ◌++◌}
use native.Mathlib.Omega.{arith}
use lib.Dec.{ltb}
use lib.ListN.{length, take, drop, length-take, length-drop, length-replicate, get_or-append, get_or-eq_default}
use lib.ListN.{get_or-replicate}
use lib.Seq.{ext_get_or, get_or-append-add, get_or-take, get_or-drop}
use borrow.Author.Tests.{ltb-true, ltb-false}
use Rattle.lists.specs.Bytes.{byte_at}
use Rattle.theorem_secrecy.specs.View.{Mark, seen, secret, seens, secret_marks, mark_at, Hiding, every, shown_as}
use Rattle.theorem_secrecy.specs.View.{view}
use Rattle.theorem_secrecy.specs.Alike.{shows, ButForSecrets}
use Rattle.theorem_secrecy.proofs.Marks.{length_view}
use Rattle.theorem_secrecy.proofs.Leaves.{byte_view}

-- equal in each byte that no secret's mark is on
pub record But (ms : List Mark) (r q : List ℕ) : Type 0 where
  pub size : length r ≡ length q
  pub bytes : (i : ℕ) → mark_at ms i ≡ seen → byte_at r i ≡ byte_at q i

pub but_hidden : (z : Hiding) (ms : List Mark) (r q : List ℕ) → ButForSecrets z ms r q → But ms r q
but_hidden z ms r q e = record { size = e.size; bytes = λ i m. e.bytes i (ap (shows z) m) }

-- behind n bytes
pub but_drop : (n : ℕ) (ms : List Mark) (r q : List ℕ) → But ms r q → But (drop n ms) (drop n r) (drop n q)
but_drop n ms r q e = record {
  size = rw (length-drop n r, length-drop n q, e.size);
  bytes = λ i m. get_or-drop n r i 0 ∙ e.bytes (n + i) (sym (get_or-drop n ms i seen) ∙ m) ∙ sym (get_or-drop n q i 0);
}

-- no byte is marked
pub but_none : (r q : List ℕ) → But [] r q → r ≡ q
but_none r q e = ext_get_or 0 r q e.size (λ i _. e.bytes i refl)

-- the first n are seen
mark_seens : (n i : ℕ) (ms : List Mark) → i < n → mark_at (seens n ++ ms) i ≡ seen
mark_seens n i ms h = get_or-append (seens n) ms seen i (rw length-replicate h) ∙ get_or-replicate n i seen seen h

pub but_seen : (n : ℕ) (ms : List Mark) (r q : List ℕ) → But (seens n ++ ms) r q → take n r ≡ take n q
but_seen n ms r q e =
    ext_get_or 0 (take n r) (take n q) (rw (length-take n r, length-take n q, e.size))
    (λ i h. let l : i < n = omega (arith, length-take n r) in
    get_or-take n r i 0 l ∙ e.bytes i (mark_seens n i ms l) ∙ sym (get_or-take n q i 0 l))

-- the first n bytes, where only marks of theirs count
pub but_take : (n : ℕ) (ms : List Mark) (r q : List ℕ) → But (take n ms) r q → But ms (take n r) (take n q)
but_take n ms r q e = record {
  size = rw (length-take n r, length-take n q, e.size);
  bytes = λ i m. on i m (ltb i n) refl;
}
  where
    on : (i : ℕ) → mark_at ms i ≡ seen → (x : Bool) → ltb i n ≡ x → byte_at (take n r) i ≡ byte_at (take n q) i
    on i m true l =
        let h = ltb-true i n l in
        get_or-take n r i 0 h ∙ e.bytes i (get_or-take n ms i seen h ∙ m) ∙ sym (get_or-take n q i 0 h)
    on i m false l =
        let h = ltb-false i n l in
        get_or-eq_default (take n r) 0 (rw length-take (omega arith)) ∙ sym
        (get_or-eq_default (take n q) 0 (rw length-take (omega arith)))

-- they look alike
pub hidden_view : (z : Hiding) (ms : List Mark) (r q : List ℕ) → ButForSecrets z ms r q → view z ms r ≡ view z ms q
hidden_view z ms r q e =
    ext_get_or 0 (view z ms r) (view z ms q) (rw (length_view z ms r, length_view z ms q, e.size))
    (λ i _. byte_view z ms r i ∙ on (mark_at ms i) (byte_at r i) (byte_at q i) (e.bytes i) ∙ sym (byte_view z ms q i))
  where
    by : (hides : Bool) (x y : ℕ) → (not hides ≡ true → x ≡ y) → cond hides 0 x ≡ cond hides 0 y
    by true x y p = refl
    by false x y p = p refl

    on : (m : Mark) (x y : ℕ) → (shows z m ≡ true → x ≡ y) → shown_as z m x ≡ shown_as z m y
    on seen x y p = p refl
    on (secret k j) x y p = by (z k j) x y p

-- and lists that look alike differ only so
pub view_hidden : (z : Hiding) (ms : List Mark) (r q : List ℕ) → view z ms r ≡ view z ms q → ButForSecrets z ms r q
view_hidden z ms r q e = record {
  size = sym (length_view z ms r) ∙ ap (λ (l : List ℕ). length l) e ∙ length_view z ms q;
  bytes = λ i s.
      sym (on (mark_at ms i) (byte_at r i) s) ∙ sym (byte_view z ms r i) ∙ ap (λ (l : List ℕ). byte_at l i) e
      ∙ byte_view z ms q i ∙ on (mark_at ms i) (byte_at q i) s;
}
  where
    by : (hides : Bool) (x : ℕ) → not hides ≡ true → cond hides 0 x ≡ x
    by true x s = absurd (true≢false (sym s))
    by false x s = refl

    on : (m : Mark) (x : ℕ) → shows z m ≡ true → shown_as z m x ≡ x
    on seen x s = refl
    on (secret k j) x s = by (z k j) x s

pub but_view : (ms : List Mark) (r q : List ℕ) → But ms r q → view every ms r ≡ view every ms q
but_view ms r q e =
    hidden_view every ms r q (record { size = e.size; bytes = λ i m. e.bytes i (on (mark_at ms i) m) })
  where
    on : (m : Mark) → shows every m ≡ true → m ≡ seen
    on seen p = refl
    on (secret k j) p = absurd (true≢false (sym p))

-- all behind the front marked
abbrev is_seen : Mark → Type 0
is_seen seen = Unit {0}
is_seen (secret k j) = ⊥

past_secrets : (k j n i : ℕ) → mark_at (secret_marks k j n) i ≡ seen → n ≤ i
unfolding secret_marks
past_secrets k j zero i e = omega arith
past_secrets k j (suc n) zero e = absurd (subst is_seen (sym e) tt)
past_secrets k j (suc n) (suc i) e = omega (arith, past_secrets k (suc j) n i e)

pub but_front : (front ms : List Mark) (r q : List ℕ) → But (front ++ ms) r q
    → But (front ++ secret_marks 0 0 (length r)) r q
but_front front ms r q e = record { size = e.size; bytes = λ i m. on i m (ltb i (length front)) refl }
  where
    on : (i : ℕ) → mark_at (front ++ secret_marks 0 0 (length r)) i ≡ seen → (x : Bool) → ltb i (length front) ≡ x
        → byte_at r i ≡ byte_at q i
    on i m true l =
        let h = ltb-true i (length front) l in
        e.bytes i (get_or-append front ms seen i h ∙ sym
        (get_or-append front (secret_marks 0 0 (length r)) seen i h) ∙ m)
    on i m false l =
        let h = ltb-false i (length front) l in
        let n = i - length front in
        let place : length front + n ≡ i = omega arith in
        let behind = get_or-append-add front (secret_marks 0 0 (length r)) n seen in
        let far = past_secrets 0 0 (length r) n (sym behind ∙ rw place m) in
        get_or-eq_default r 0 (omega arith) ∙ sym (get_or-eq_default q 0 (omega (arith, e.size)))
