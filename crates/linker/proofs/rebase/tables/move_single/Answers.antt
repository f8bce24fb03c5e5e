-- Entry by entry: `single_turn`, with the word where `single_stands` says.
use Rattle.std.proofs.Common.{◌≡◌, ◌+◌, ◌*◌, ◌≤◌, [], ◌∷◌, length, refl, ◌∙◌, mul-le-mul_right, add-mul, arith}
use Rattle.window.specs.TraceRuns.{steps-over}
use Rattle.layout.specs.Segments.{entry_at}
use Rattle.linker_spec.specs.Rebase.{move_pointers}
use Rattle.linker.proofs.rebase.Pointers.{from_start, single_inside, single_stands, single_turn}
use Rattle.linker.proofs.rebase.tables.move_single.Goals as goal

pub overflow_add-place : goal.overflow_add-place
overflow_add-place c = omega (arith, c.requires)

pub loop-index-init : goal.loop-index-init
loop-index-init c = (omega arith, omega arith, refl, λ at table trace e. from_start at _ c.args.count _)

pub move_word_in-requires : goal.move_word_in-requires
move_word_in-requires c =
    let a = c.args in
    single_inside (length c.loop-index.w) a.start a.first a.size a.count c.loop-index.index c.requires.0 c.requires.1
    (omega (arith, c.requires.2, c.loop-index.invariant.2)) c.loop-index-test.true c.loop-index.invariant.1

pub overflow_add-place-in-loop-index : goal.overflow_add-place-in-loop-index
overflow_add-place-in-loop-index c =
    let a = c.args in
    let m : c.loop-index.index * a.size ≤ a.count * a.size = mul-le-mul_right a.size c.loop-index.invariant.0 in
    omega (arith, m, c.requires, c.loop-index.invariant.1)

pub loop-index-preserved : goal.loop-index-preserved
loop-index-preserved c =
    let a = c.args in
    let next : (c.loop-index.index + 1) * a.size ≡ c.loop-index.index * a.size + 1 * a.size = add-mul c.loop-index.index 1 a.size in (
      omega arith,
      omega (arith, next, c.loop-index.invariant.1),
      c.move_word_in.auto.w ∙ c.loop-index.invariant.2,
      λ at table trace e.
          single_turn at a.forward a.base a.size a.first table c.loop-index.index a.count (c.loop-index.w, trace)
          (c.loop-index.invariant.3 at table trace e) c.loop-index-test.true
          (c.move_word_in.ensures at _ trace (single_stands (length c.loop-index.w) a.start a.first a.size a.count c.loop-index.index c.requires.0 c.requires.1
          (omega (arith, c.requires.2, c.loop-index.invariant.2)) c.loop-index-test.true c.loop-index.invariant.1 at table e)),
    )

pub returns : goal.returns
returns c =
    let a = c.args in
    λ at table trace e.
    steps-over at (λ e. move_pointers a.forward a.base e (a.first ∷ [])) (λ i. entry_at table i a.size) c.loop-index.index a.count
    (c.loop-index.w, trace) (c.loop-index.invariant.3 at table trace e) c.loop-index-test.false
