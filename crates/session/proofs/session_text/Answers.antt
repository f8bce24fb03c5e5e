use Rattle.std.proofs.Common.{sym, ◌∙◌, rules, length-take-le, ℕ, arith}
use lib.ListN.{length-replicate}
use Rattle.text.specs.Text.{bytes}
use Rattle.session.specs.Parts.{session_parts}
use Rattle.session.specs.Start.{zeroed}
use Rattle.session.proofs.Whole.{text_bad, window_fits, in_buffer, text_good}
use Rattle.session.proofs.session_text.Goals as goal

pub returns-then-not-is_session : goal.returns-then-not-is_session
unfolding bytes
returns-then-not-is_session c =
    let a = c.args in
    let s = sym c.is_session.ensures ∙ c.if-not-is_session.true in
    let same = c.put.ensures.same in
    in_buffer (text_bad a.file.now (0, a.out.now) s c.put.ensures.text) (search rules)

pub slice_bounds-window-end : goal.slice_bounds-window-end
slice_bounds-window-end c =
    let h = window_fits c.args.file.now (sym c.is_session.ensures ∙ c.if-not-is_session.false) c.window_bytes-bytes.ensures in
    omega (arith, h, length-replicate {A = ℕ} 32768 0)

pub slice_bounds-window-end-2 : goal.slice_bounds-window-end-2
slice_bounds-window-end-2 c =
    sym (length-take-le _ _ (window_fits c.args.file.now (sym c.is_session.ensures ∙ c.if-not-is_session.false) c.window_bytes-bytes.ensures))

pub copy_from_slice-requires : goal.copy_from_slice-requires
copy_from_slice-requires c =
    length-take-le _ _ (window_fits c.args.file.now (sym c.is_session.ensures ∙ c.if-not-is_session.false) c.window_bytes-bytes.ensures)

pub run_steps-requires : goal.run_steps-requires
run_steps-requires c =
    let a = c.args in
    ((session_parts a.file.now (sym c.is_session.ensures ∙ c.if-not-is_session.false)).0, zeroed)

pub returns : goal.returns
unfolding bytes
returns c =
    let a = c.args in
    let s = sym c.is_session.ensures ∙ c.if-not-is_session.false in
    let same =
    c.put_register.ensures.same ∙ c.run_steps.ensures.same ∙ c.put-3.ensures.same ∙ c.put_decimal.ensures.same ∙ c.put-2.ensures.same in
    in_buffer
    (text_good a.file.now (0, a.out.now) s (c.copy_from_slice.ensures.after ∙ c.window_bytes-bytes.ensures)
    c.put-2.ensures.text c.step_count.ensures c.put_decimal.ensures.text c.put-3.ensures.text
    c.run_steps.ensures.ran c.put_register.ensures.text)
    (search rules)
