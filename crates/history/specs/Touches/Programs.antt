-- A call's touches by its program: what they depend on, that each is a yes or a no, and that the first touch stands.
use Rattle.std.specs.Prelude.{if◌then◌else◌, ℕ, ◌≡◌, refl, ◌≢◌, List, Bool, true, false, ◌&&◌, length, eqb}
use Rattle.std.proofs.Common.{sym, ap, ◌∙◌, subst, inl, arith}
use Rattle.window.specs.Memory.{good_window}
use Rattle.window.specs.Access.{Prog, ret, ◌>>=◌, run}
use Rattle.window.specs.Trace.{State, touch_of, run_t, run_t_bind}
use Rattle.window.specs.Silent.{YesOrNo, touched_said, silent, erase, yes_or_no}
use Rattle.register.specs.Decode.{is_register}
use Rattle.linker_spec.specs.declared.call.Call.{Call}
use Rattle.linker_spec.specs.declared.call.Call.TheVariants.{Initialize, Load, Unload}
use Rattle.linker_spec.specs.Calls.{number, rebase, rebase_static}
use Rattle.linker_spec.specs.Outcome.{Buffers}
use Rattle.linker_spec.specs.Refusals.{lent_register}
use Rattle.linker_spec.specs.Touches.{no_touch, no_log, none_said, touch_in, up_to_reset, counted, touches, initialize_touches, load_touches, unload_touches, touches_of}
use Rattle.linker_spec.specs.declared.refusal.Refusal.TheVariants.{NoRoom}
use Rattle.linker_spec.specs.Refusal.{refusal_number}
use Rattle.history.specs.Windows.{program}
use Rattle.history.specs.Sessions.Answers.{program_of, Performed}

-- what a call begins with: its touches alone count with number 5
unfoldable pub beginning : Call → Prog (Unit {0})
beginning (Initialize base size) = up_to_reset (rebase_static base) base
beginning (Load l auto level) = up_to_reset (rebase l) l.base
beginning (Unload base) = ret tt

pub touches-program : (c : Call) (at : ℕ) (b : Buffers) → touches_of c at b ≡ touches (program c) (beginning c) at b
unfolding touches_of initialize_touches load_touches unload_touches touches program beginning
touches-program (Initialize base size) at b = refl
touches-program (Load l auto level) at b = refl
touches-program (Unload base) at b = refl

-- with number 0 the whole program's touch counts
pub whole-counts : (c : Call) (at : ℕ) (b : Buffers) → Performed c at b → touches_of c at b ≡ touch_in at (program_of c b) b.window
unfolding touches counted number
whole-counts c at b p = touches-program c at b ∙ rw (p.good, p.valid, p.zero) refl

-- all that the touches of a call are read from, beside its arguments and the window's address
pub record SameLent (b c : Buffers) : Type 0 where
  pub window : b.window ≡ c.window
  pub records : length b.records ≡ length c.records
  pub names : length b.names ≡ length c.names
  pub valid : is_register b.records b.names b.missing ≡ is_register c.records c.names c.missing
  pub register : lent_register b ≡ lent_register c

pub touches-same : (call : Call) (at : ℕ) (b c : Buffers) → SameLent b c → touches_of call at b ≡ touches_of call at c
unfolding touches
touches-same call at b c e =
    touches-program call at b
    ∙ rw (e.window, e.records, e.names, e.valid, e.register) refl
    ∙ sym (touches-program call at c)

touch_is : {A : Type 0} (at : ℕ) (m : Prog A) (w : List ℕ) → YesOrNo (touch_in at m w)
unfolding touch_in
touch_is at m w = yes_or_no at m w no_touch no_log (omega arith) (inl none_said)

-- yes and where, or no and 0
pub touched_or-not : (c : Call) (at : ℕ) (b : Buffers) → YesOrNo (touches_of c at b)
unfolding touches counted
touched_or-not c at b =
    subst YesOrNo (sym (touches-program c at b))
    (go (good_window at b.window && is_register b.records b.names b.missing)
    (eqb (number (run at (program_of c b) b.window).0) (refusal_number NoRoom)))
  where
    go
        : (fit full : Bool)
        → YesOrNo (if fit then (if full then touch_in at (beginning c) b.window else touch_in at (program_of c b) b.window) else (0, 0))
    go true true = touch_is at (beginning c) b.window
    go true false = touch_is at (program_of c b) b.window
    go false full = inl refl

-- a program's touch stands, whatever follows
pub first_stands
    : {A B : Type 0} (at : ℕ) (m : Prog A) (f : A → Prog B) (w : List ℕ) → (touch_in at m w).0 ≢ 0 → touch_in at (m >>= f) w ≡ touch_in at m w
unfolding touch_in
first_stands {A} {B} at m f w n =
    let r = run_t at m (w, no_touch) in
    ap (λ (x : B × State). touch_of x.1.1) (run_t_bind at m f (w, no_touch))
    ∙ ap touch_of (silent at (f r.0) r.1.0 r.1.1 (erase at m w no_touch no_log).1 (touched_said r.1.1 n))
