-- Ascending exports have one order: two lists of them that give every name the same address are equal.
use Rattle.std.specs.declared.cmp.Ordering.{Ordering}
use Rattle.std.specs.declared.cmp.Ordering.TheVariants.{Less, Equal, Greater}
use Rattle.std.specs.Ordering.{is_lt}
use Rattle.std.specs.Prelude.{◌≡◌, ℕ, Bool, true, false, ◌&&◌, List, [], ◌∷◌, length, nat_le, refl, Some, None}
use Rattle.std.proofs.Common.{sym, ap, ◌∙◌}
use Rattle.window.specs.Name.{is_name, order_of, order_same, order_turned, turned, before_trans}
use Rattle.window.specs.Tests.{both}
use Rattle.register.specs.Words.{same}
use Rattle.register.specs.Lists.{same_true, same_refl}
use Rattle.register.specs.Module.{Export, Module, named_ok, ascending, proper_module}
use Rattle.register.specs.Order.{before_differs, is_lt_lem, tail_ascends}
use Rattle.register.specs.Read.Read.{address_of}

-- a name before the first is none of them
before_all
    : (name : List ℕ) (x : Export) (xs : List Export) → ascending (x ∷ xs) ≡ true → order_of name x.name ≡ Less
    → address_of (x ∷ xs) name ≡ None
unfolding address_of ascending
before_all name x [] h f = rw (before_differs name x.name f)
before_all name x (y ∷ ys) h f =
    let b = both (is_lt (order_of x.name y.name)) (ascending (y ∷ ys)) h in
    rw (before_differs name x.name f)
    (before_all name y ys b.1 (before_trans name x.name y.name f (is_lt_lem (order_of x.name y.name) b.0)))

-- so the first is none of the others
first_once : (x : Export) (xs : List Export) → ascending (x ∷ xs) ≡ true → address_of xs x.name ≡ None
unfolding address_of ascending
first_once x [] h = refl
first_once x (y ∷ ys) h =
    let b = both (is_lt (order_of x.name y.name)) (ascending (y ∷ ys)) h in
    before_all x.name y ys b.1 (is_lt_lem (order_of x.name y.name) b.0)

first_found : (x : Export) (xs : List Export) → address_of (x ∷ xs) x.name ≡ Some x.address
unfolding address_of
first_found x xs = rw (same_refl x.name)

export_same : (x y : Export) → x.name ≡ y.name → x.address ≡ y.address → x ≡ y
export_same x y n a =
    ap {B = Export} (λ k. record { name = k; address = x.address }) n ∙ ap {B = Export} (λ k. record { name = y.name; address = k }) a

pub one_order
    : (xs ys : List Export) → ascending xs ≡ true → ascending ys ≡ true → ((name : List ℕ) → address_of xs name ≡ address_of ys name) → xs ≡ ys
unfolding address_of
one_order [] [] p q h = refl
one_order [] (y ∷ ys) p q h = let z = h y.name ∙ first_found y ys in cc
one_order (x ∷ xs) [] p q h = let z = sym (first_found x xs) ∙ h x.name in cc
one_order (x ∷ xs) (y ∷ ys) p q h =
    go (order_of x.name y.name) refl (one_order xs ys (tail_ascends x xs p) (tail_ascends y ys q))
  where
    rest : x.name ≡ y.name → (name : List ℕ) (t : Bool) → same name x.name ≡ t → address_of xs name ≡ address_of ys name
    rest n name true e =
        let k = same_true name x.name e in
        ap (address_of xs) k ∙ first_once x xs p ∙ sym (ap (address_of ys) (k ∙ n) ∙ first_once y ys q)
    rest n name false e = rw (e, ap (same name) (sym n) ∙ e) at (h name)

    go
        : (o : Ordering) → order_of x.name y.name ≡ o → (((name : List ℕ) → address_of xs name ≡ address_of ys name) → xs ≡ ys)
        → ◌≡◌ {A = List Export} (x ∷ xs) (y ∷ ys)
    go Less e ih = let z = sym (first_found x xs) ∙ h x.name ∙ before_all x.name y ys q e in cc
    go Greater e ih =
        let f : order_of y.name x.name ≡ Less = order_turned x.name y.name ∙ ap turned e in
        let z = sym (before_all y.name x xs p f) ∙ h y.name ∙ first_found y ys in cc
    go Equal e ih =
        let n : x.name ≡ y.name = order_same x.name y.name e in
        let z : Some x.address ≡ Some y.address = sym (first_found x xs) ∙ h x.name ∙ ap (address_of (y ∷ ys)) n ∙ first_found y ys in
        let a : x.address ≡ y.address = cc in
        rw (export_same x y n a, ih (λ name. rest n name (same name x.name) refl))

exports_ascend : (m : Module) → proper_module m ≡ true → ascending m.named ≡ true
unfolding proper_module
exports_ascend m p =
    let few = nat_le (length m.segments) 16 in
    let named = both (is_name m.name) (few && (named_ok m.named && ascending m.named)) p in
    (both (named_ok m.named) (ascending m.named) (both few (named_ok m.named && ascending m.named) named.1).1).1

-- so proper modules that differ at most in the order of their exports are equal
pub one_record
    : (m n : Module) → proper_module m ≡ true → proper_module n ≡ true → m.base ≡ n.base → m.size ≡ n.size → m.auto ≡ n.auto
    → m.name ≡ n.name → m.segments ≡ n.segments → m.indexed ≡ n.indexed
    → ((name : List ℕ) → address_of m.named name ≡ address_of n.named name) → m ≡ n
one_record m n p q b s a k g i h =
    let e : m.named ≡ n.named = one_order m.named n.named (exports_ascend m p) (exports_ascend n q) h in
    let same-fields
    : ◌≡◌ {A = Module}
    (record { base = m.base; size = m.size; auto = m.auto; name = m.name; segments = m.segments; named = m.named; indexed = m.indexed })
    (record { base = n.base; size = n.size; auto = n.auto; name = n.name; segments = n.segments; named = n.named; indexed = n.indexed })
    = rw (b, s, a, k, g, e, i) in
    same-fields
