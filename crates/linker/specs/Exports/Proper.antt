-- What is read from an image is a proper module: names are names, segments are at most 16, and its exports' names ascend.
use Rattle.std.specs.Prelude.{◌≡◌, ℕ, zero, suc, ◌≤◌, Bool, true, List, length, Option, Some, None}
use Rattle.std.proofs.Math.Path.{refl, ap}
use Rattle.std.proofs.Common.{◌∙◌, arith, lt-ltb, le-ltb, le-leb}
use Rattle.std.proofs.Math.Decide.{dec_lt}
use Rattle.window.specs.Access.{run}
use Rattle.window.specs.Tests.{also}
use Rattle.window.specs.Name.{name_at-is_name}
use Rattle.layout.specs.Header.{export_named_symbol_num, segment_num}
use Rattle.register.specs.Module.{Export, named_ok, ascending, proper_module}
use Rattle.register.specs.Order.{put_ascends}
use Rattle.linker_spec.specs.Exports.{put_usable, named_exports, read_segments, read_module}
use Rattle.linker.specs.Record.Read.{header_word, segments_to, length-segments, at_most16, segments_give, name_of, address_of, named_to, named_gives, module_is}
use Rattle.linker.specs.Exports.Modules.{named_ok_to}

kept_16 : (n : ℕ) → at_most16 n ≤ 16
unfolding at_most16
kept_16 n = elim (dec_lt 16 n) [ yes l ↦ rw (lt-ltb 16 n l) (omega arith) | no l ↦ rw (le-ltb 16 n (omega arith)) (omega arith) ]

module _ (at : ℕ) (w : List ℕ) (base : ℕ) where
  pub ascends_to : (i : ℕ) → ascending (named_to at w base i) ≡ true
  unfolding named_to ascending put_usable
  ascends_to zero = refl
  ascends_to (suc i) = go (address_of at w base i) (ascends_to i)
    where
      go
          : (a : Option ℕ) → ascending (named_to at w base i) ≡ true
          → ascending (put_usable (named_to at w base i) (name_of at w base i) a) ≡ true
      go (Some a) h = put_ascends (named_to at w base i) (name_of at w base i) a h
      go None h = h

  few_segments : length (run at (read_segments base) w).0 ≤ 16
  few_segments =
      let n = at_most16 (header_word at w base segment_num) in
      let e : (run at (read_segments base) w).0 ≡ segments_to at w base n = ap (λ (x : List ℕ × List ℕ). x.0) (segments_give at w base) in
      rw e (omega (arith, length-segments at w base n, kept_16 (header_word at w base segment_num)))

  pub module_proper : (size : ℕ) (auto : Bool) → proper_module (run at (read_module base size auto) w).0 ≡ true
  unfolding proper_module
  module_proper size auto =
      let n = header_word at w base export_named_symbol_num in
      let e : (run at (named_exports base) w).0 ≡ named_to at w base n = ap (λ (x : List Export × List ℕ). x.0) (named_gives at w base) in
      rw (module_is at w base size auto)
      (also (name_at-is_name at _ w)
      (also (le-leb (length (run at (read_segments base) w).0) 16 few_segments)
      (also (ap named_ok e ∙ named_ok_to at w base n) (ap ascending e ∙ ascends_to n))))
