-- Which of the three exported calls it is.
use Prim.Native.Nat.{ℕ, ◌^◌, ◌<◌}
use mathlib.Core.Path.{◌≡◌}
use Rattle.linker_spec.specs.declared.rebase.LoadArguments.{LoadArguments}
use Rattle.linker_spec.specs.declared.call.Call.{Call}
use Rattle.linker_spec.specs.declared.call.Call.TheVariants.{Initialize, Load, Unload}
use Rattle.linker_spec.specs.Outcome.{Buffers, Outcome, initialize_outcome, load_outcome, unload_outcome}
use Rattle.linker_spec.specs.Touches.{initialize_touches, load_touches, unload_touches, touches_of}
use Rattle.history.specs.Sessions.{given, WordArguments}

module _ {call : Call} (at : ℕ) (b : Buffers) {o : Outcome} {touch : ℕ × ℕ} where
  pub is_initialize
      : {base size : ℕ} → call ≡ Initialize base size → base < 2 ^ 32 → size < 2 ^ 32
      → (o ≡ initialize_outcome base size at b) × (touch ≡ initialize_touches base size at b)
      → (o ≡ given call at b) × ((touch ≡ touches_of call at b) × WordArguments call)
  unfolding given touches_of WordArguments
  is_initialize e hb hs h = rw e (h.0, (h.1, (hb, hs)))

  pub is_load
      : {l : LoadArguments} {auto level : ℕ} → call ≡ Load l auto level → WordArguments (Load l auto level)
      → (o ≡ load_outcome l auto level at b) × (touch ≡ load_touches l auto level at b)
      → (o ≡ given call at b) × ((touch ≡ touches_of call at b) × WordArguments call)
  unfolding given touches_of
  is_load e words h = rw e (h.0, (h.1, words))

  pub is_unload
      : {base : ℕ} → call ≡ Unload base → base < 2 ^ 32 → (o ≡ unload_outcome base at b) × (touch ≡ unload_touches base at b)
      → (o ≡ given call at b) × ((touch ≡ touches_of call at b) × WordArguments call)
  unfolding given touches_of WordArguments
  is_unload e hb h = rw e (h.0, (h.1, hb))
