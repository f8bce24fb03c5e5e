-- The loop that compares the names of neighbours among a record's named exports: n in all, those from number k on still to see.
use Rattle.std.specs.Ordering.{is_lt}
use Prim.Native.Nat.{ℕ, ◌+◌, ◌-◌, ◌≤◌, ◌<◌}
use mathlib.Core.Path.{◌≡◌, sym, ap, ◌∙◌}
use mathlib.Core.List.{List, ◌∷◌}
use mathlib.Core.Bool.{Bool, true, false, ◌&&◌}
use native.Mathlib.Omega.{arith}
use native.Mathlib.Decide.{dec_le}
use Rattle.window.specs.Name.{order_of}
use Rattle.register.specs.Module.{ascending}
use Rattle.register.specs.Decode.{export_at, exports_from}
use Rattle.register.proofs.ExportLoops.{exports_turn, exports_done}

module _ (n : ℕ) (ws names : List ℕ) (k : ℕ) where
  two
      : k + 1 < n → exports_from (n - k) ws names k
      ≡ export_at ws names k ∷ export_at ws names (k + 1) ∷ exports_from (n - (k + 1 + 1)) ws names (k + 1 + 1)
  two h =
      exports_turn n ws names k (omega arith)
      ∙ ap (λ r. export_at ws names k ∷ r) (exports_turn n ws names (k + 1) h)

  module _ (x y : List ℕ) (t : Bool) (h : k + 1 < n) (e : x ≡ (export_at ws names k).name) (f : y ≡ (export_at ws names (k + 1)).name) where
    pub ascending-stop : t ≡ is_lt (order_of x y) → t ≡ false → false ≡ ascending (exports_from (n - k) ws names k)
    unfolding ascending
    ascending-stop s z = rw (two h, ← e, ← f, ← s, z)

    pub ascending_goes
        : t ≡ is_lt (order_of x y) → t ≡ true
        → ascending (exports_from (n - (k + 1)) ws names (k + 1)) ≡ ascending (exports_from (n - k) ws names k)
    unfolding ascending
    ascending_goes s z =
        let rest = export_at ws names (k + 1) ∷ exports_from (n - (k + 1 + 1)) ws names (k + 1 + 1) in
        let goes : is_lt (order_of (export_at ws names k).name (export_at ws names (k + 1)).name) ≡ true = rw (← e, ← f, ← s) z in
        rw (two h, exports_turn n ws names (k + 1) h) (sym (ap (λ b. b && ascending rest) goes))

  pub ascending_end : n ≤ k + 1 → true ≡ ascending (exports_from (n - k) ws names k)
  unfolding ascending
  ascending_end h = elim (dec_le n k) [ yes l ↦ none l | no l ↦ one (omega arith) ]
    where
      none : n ≤ k → true ≡ ascending (exports_from (n - k) ws names k)
      none l = rw (exports_done n ws names k l)

      one : k < n → true ≡ ascending (exports_from (n - k) ws names k)
      one l = rw (exports_turn n ws names k l, exports_done n ws names (k + 1) h)
