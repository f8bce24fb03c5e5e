-- A proper register taken apart and put together.
use Rattle.std.specs.Prelude.{◌≡◌, ◌≤◌, Bool, true, ◌&&◌, length, nat_le}
use Rattle.std.proofs.Common.{leb-true, le-leb}
use Rattle.window.specs.Tests.{both, also}
use Rattle.register.specs.Module.{Register, proper_modules, proper_names, proper}

pub record Proper (r : Register) : Type 0 where
  pub count : length r.modules ≤ 64
  pub modules : proper_modules r.modules ≡ true
  pub few : length r.missing ≤ 64
  pub kept : proper_names r.missing ≡ true

pub proper-parts : (r : Register) → proper r ≡ true → Proper r
unfolding proper
proper-parts r p =
    let t₁ : Bool = nat_le (length r.modules) 64 in
    let t₂ : Bool = proper_modules r.modules in
    let t₃ : Bool = nat_le (length r.missing) 64 in
    let t₄ : Bool = proper_names r.missing in
    let a = both t₁ (t₂ && (t₃ && t₄)) p in
    let b = both t₂ (t₃ && t₄) a.1 in
    let c = both t₃ t₄ b.1 in
    record { count = leb-true (length r.modules) 64 a.0; modules = b.0; few = leb-true (length r.missing) 64 c.0; kept = c.1 }

pub parts-proper : (r : Register) → Proper r → proper r ≡ true
unfolding proper
parts-proper r p =
    also (le-leb (length r.modules) 64 p.count) (also p.modules (also (le-leb (length r.missing) 64 p.few) p.kept))
