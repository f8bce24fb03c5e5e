-- Lists that a record keeps: what is found in them, as they are gathered one by one.
use Rattle.std.specs.declared.cmp.Ordering.{Ordering}
use Rattle.std.specs.declared.cmp.Ordering.TheVariants.{Less, Equal, Greater}
use Rattle.std.specs.Prelude.{if◌then◌else◌, ℕ, zero, suc, ◌<◌, min, ◌≡◌, refl, List, [], ◌∷◌, ◌++◌, Bool, true, false, length, take, get_or, ltb, Some, None}
use Rattle.std.proofs.Common.{sym, ap, ◌∙◌, arith, length-append, length-take, get_or-take, lt-ltb, le-ltb}
use Rattle.std.proofs.Math.Decide.{dec_lt, ℕ_discrete}
use Rattle.std.proofs.Math.ListN.{get_or-append}
use Rattle.std.proofs.lemmas.List.{get_or_at}
use Rattle.window.specs.Name.{order_of, order_self, order_same}
use Rattle.register.specs.Words.{same}
use Rattle.register.specs.Lists.{same_true}
use Rattle.register.specs.Module.{Export}
use Rattle.register.specs.Change.{by_order, put_named}
use Rattle.register.specs.Read.Read.{address_of, entry_of}
use Rattle.history.specs.Steps.Asking.{true_false}

-- a later export of the same name is found instead of an earlier one, wherever it is put
pub put-named
    : (xs : List Export) (n : List ℕ) (a : ℕ) (name : List ℕ)
    → address_of (put_named xs n a) name ≡ (if same name n then Some a else address_of xs name)
unfolding address_of put_named by_order
put-named [] n a name = refl
put-named (x ∷ xs) n a name =
    go (order_of n x.name) (same name x.name) (same name n) refl refl refl (put-named xs n a name)
  where
    go
        : (o : Ordering) (c d : Bool) → order_of n x.name ≡ o → same name x.name ≡ c → same name n ≡ d
        → address_of (put_named xs n a) name ≡ (if d then Some a else address_of xs name)
        → address_of (by_order o (record { name = n; address = a } ∷ x ∷ xs) (record { name = x.name; address = a } ∷ xs) (x ∷ put_named xs n a)) name
        ≡ (if d then Some a else (if c then Some x.address else address_of xs name))
    go Less c d p q r ih = rw (r, q) refl
    go Equal true true p q r ih = rw q refl
    go Equal false false p q r ih = rw q refl
    go Equal true false p q r ih = absurd (true_false (sym q ∙ rw (order_same n x.name p) at r))
    go Equal false true p q r ih = absurd (true_false (sym r ∙ rw (order_same n x.name p) q))
    go Greater true true p q r ih =
        let e : x.name ≡ n = sym (same_true name x.name q) ∙ same_true name n r in
        let z : Greater ≡ Equal = sym p ∙ ap (order_of n) e ∙ order_self n in
        cc
    go Greater true false p q r ih = rw q refl
    go Greater false d p q r ih = rw q ih

-- f 0, f 1, .. up to n of them, as a loop gathers them
unfoldable pub gathered : (ℕ → ℕ) → ℕ → List ℕ
gathered f zero = []
gathered f (suc n) = gathered f n ++ (f n ∷ [])

pub gathered-length : (f : ℕ → ℕ) (n : ℕ) → length (gathered f n) ≡ n
unfolding gathered
gathered-length f zero = refl
gathered-length f (suc n) = let h = gathered-length f n in rw (length-append (gathered f n) (f n ∷ []), h) (omega arith)

pub gathered-at : (f : ℕ → ℕ) (n i : ℕ) → i < n → get_or (gathered f n) i 0 ≡ f i
unfolding gathered
gathered-at f zero i l = absurd (omega arith)
gathered-at f (suc n) i l = go (ℕ_discrete i n) (gathered-at f n i)
  where
    go : Dec (i ≡ n) → (i < n → get_or (gathered f n) i 0 ≡ f i) → get_or (gathered f n ++ (f n ∷ [])) i 0 ≡ f i
    go (yes e) ih = rw e (get_or_at (gathered f n) (f n) [] 0 n (gathered-length f n))
    go (no o) ih =
        let h = gathered-length f n in
        get_or-append (gathered f n) (f n ∷ []) 0 i (omega (arith, h, l, o)) ∙ ih (omega arith)

pub entry-gathered : (f : ℕ → ℕ) (n i : ℕ) → entry_of (gathered f n) i ≡ (if ltb i n then Some (f i) else None)
unfolding entry_of
entry-gathered f n i = rw (gathered-length f n) (go (dec_lt i n))
  where
    go
        : Dec (i < n)
        → (if ltb i n then Some (get_or (gathered f n) i 0) else None) ≡ (if ltb i n then Some (f i) else None)
    go (yes l) = rw (lt-ltb i n l) (ap Some (gathered-at f n i l))
    go (no l) = rw (le-ltb i n (omega arith)) refl

-- the first 16 are all that are asked for
pub entry_taken : (l : List ℕ) (i : ℕ) → i < 16 → entry_of (take 16 l) i ≡ entry_of l i
unfolding entry_of
entry_taken l i h = rw (length-take 16 l, get_or-take 16 l i 0 h) (go (dec_lt i (length l)))
  where
    go
        : Dec (i < length l)
        → (if ltb i (min 16 (length l)) then Some (get_or l i 0) else None)
        ≡ (if ltb i (length l) then Some (get_or l i 0) else None)
    go (yes g) = rw (lt-ltb i (length l) g, lt-ltb i (min 16 (length l)) (omega arith)) refl
    go (no g) = rw (le-ltb i (length l) (omega arith), le-ltb i (min 16 (length l)) (omega arith)) refl
