-- The text of a session, from what its parts print.
use Prim.Native.Nat.{ℕ, ◌≤◌}
use mathlib.Core.Path.{◌≡◌, ap, subst, ◌∙◌}
use mathlib.Core.Bool.{true, false}
use mathlib.Core.List.{List, ◌++◌}
use native.Mathlib.Omega.{arith}
use lib.ListN.{length, drop, replicate, length-take, length-replicate}
use Rattle.register.specs.Words.{part}
use Rattle.register.specs.Module.{proper}
use Rattle.register.specs.Decode.{register_of}
use Rattle.register.specs.CheckIs.{register-parts}
use Rattle.linker_spec.specs.Outcome.{Buffers, buffers}
use Rattle.linker_spec.specs.Refusals.{lent_register}
use Rattle.text.specs.Text.{bytes, decimal_of, put}
use Rattle.text.specs.Laws.{put-append}
use Rattle.session.specs.Head.{step_count, window_length, window_offset}
use Rattle.session.specs.File.{is_session}
use Rattle.session.specs.Parts.{session_parts}
use Rattle.session.specs.RegisterLines.Lines.{module_lines, missing_lines}
use Rattle.session.specs.Run.{start}
use Rattle.session.specs.Session.{steps, register_lines, session_text}
use Rattle.session.specs.Fits.{bad_fits, text_fits}
use Rattle.session.specs.Ahead.{TextAndBuffers, AllRan, ahead}

pub text_bad
    : (file : List ℕ) (q : ℕ × List ℕ) {p : ℕ × List ℕ} → is_session file ≡ false → p ≡ put (bytes "session bad\n") q
    → (p ≡ put (session_text file) q) × (length (session_text file) ≤ 139264)
unfolding session_text
text_bad file q e h = (rw e h, bad_fits file e)

-- a buffer of 32,768 bytes has room for the window's bytes
pub window_fits
    : (file : List ℕ) {first : List ℕ} → is_session file ≡ true → first ≡ part file (window_offset file) (window_length file)
    → length first ≤ length (replicate {A = ℕ} 32768 0)
unfolding part
window_fits file s e =
    let a = session_parts file s in
    omega (arith, ap length e, length-take (window_length file) (drop (window_offset file) file), a.1, length-replicate {A = ℕ} 32768 0)

-- the lent bytes are those that the text left
pub in_buffer : {n : ℕ} {x y : List ℕ} {r : ℕ × List ℕ} {P : Type 0} → (◌≡◌ {A = ℕ × List ℕ} (n, y) r) × P → x ≡ y → (◌≡◌ {A = ℕ × List ℕ} (n, x) r) × P
in_buffer h e = rw e h

-- the heading, the step lines and the register's lines, one after another
pub text_good
    : (file : List ℕ) (q : ℕ × List ℕ) {w₀ w records names missing : List ℕ} {p₁ p₂ p₃ p₄ p₅ : ℕ × List ℕ} {count : ℕ} → is_session file ≡ true
    → w₀ ≡ part file (window_offset file) (window_length file) → p₁ ≡ put (bytes "session ") q → count ≡ step_count file
    → p₂ ≡ put (decimal_of count) p₁ → p₃ ≡ put (bytes "\n") p₂
    → AllRan file (step_count file) (p₃, buffers w₀ (replicate 16384 0) (replicate 16384 0) (replicate 32896 0)) (p₄, buffers w records names missing)
    → p₅ ≡ put (module_lines (register_of records names missing).modules ++ missing_lines (register_of records names missing).missing) p₄
    → (p₅ ≡ put (session_text file) q) × (length (session_text file) ≤ 139264)
unfolding session_text register_lines start ahead
text_good file q {w₀} {p₁ = p₁} {p₃ = p₃} {p₄ = p₄} s ew e₁ ec e₂ e₃ ran e₅ =
    let ends = steps file (step_count file) 0 (start file) in
    let head = bytes "session " ++ decimal_of (step_count file) in
    let lines : Buffers → List ℕ = λ b. module_lines (lent_register b).modules ++ missing_lines (lent_register b).missing in
    let r = ran.0 ∙ ap (λ x. ahead file (step_count file) 0 (p₃, buffers x (replicate 16384 0) (replicate 16384 0) (replicate 32896 0))) ew in
    let e₄ : p₄ ≡ put ends.0 p₃ = ap (λ (x : TextAndBuffers). x.0) r in
    let f₂ = e₂ ∙ ap (λ n. put (decimal_of n) p₁) ec in
    let f₅ = e₅ ∙ ap (λ b. put (lines b) p₄) (ap (λ (x : TextAndBuffers). x.1) r) in
    let proper-now : proper (lent_register ends.1) ≡ true =
    subst (λ (x : TextAndBuffers). proper (lent_register x.1) ≡ true) r (register-parts _ _ _ ran.1).0 in (
      rw (s, put-append (head ++ bytes "\n" ++ ends.0), put-append (head ++ bytes "\n"), put-append head, put-append (bytes "session "))
          (f₅ ∙ ap (put (lines ends.1)) (e₄ ∙ ap (put ends.0) (e₃ ∙ ap (put (bytes "\n")) (f₂ ∙ ap (put (decimal_of (step_count file))) e₁)))),
      text_fits file s proper-now,
    )
