use Rattle.call_cases.proofs.buffers.Laws.{other_window, other-records, other-names, other_missing, all_same}
use Rattle.linker_spec.specs.Outcome.{buffers}
use Rattle.call_cases.proofs.buffers.Stored.compare.Goals as goal

pub returns-then-not-same_name : goal.returns-then-not-same_name
returns-then-not-same_name c =
    let a = c.args in
    let before = buffers a.self.now.window a.self.now.records a.self.now.names a.self.now.missing in
    let after = buffers a.after.now.window a.after.now.records a.after.now.names a.after.now.missing in
    other_window before after c.same_name.ensures c.if-not-same_name.true

pub returns-then-not-same_name-2 : goal.returns-then-not-same_name-2
returns-then-not-same_name-2 c =
    let a = c.args in
    let before = buffers a.self.now.window a.self.now.records a.self.now.names a.self.now.missing in
    let after = buffers a.after.now.window a.after.now.records a.after.now.names a.after.now.missing in
    other-records before after c.same_name.ensures c.if-not-same_name.false c.same_name-2.ensures c.if-not-same_name-2.true

pub returns-then-not-same_name-3 : goal.returns-then-not-same_name-3
returns-then-not-same_name-3 c =
    let a = c.args in
    let before = buffers a.self.now.window a.self.now.records a.self.now.names a.self.now.missing in
    let after = buffers a.after.now.window a.after.now.records a.after.now.names a.after.now.missing in
    other-names before after c.same_name.ensures c.if-not-same_name.false c.same_name-2.ensures c.if-not-same_name-2.false c.same_name-3.ensures
    c.if-not-same_name-3.true

pub returns-then-not-same_name-4 : goal.returns-then-not-same_name-4
returns-then-not-same_name-4 c =
    let a = c.args in
    let before = buffers a.self.now.window a.self.now.records a.self.now.names a.self.now.missing in
    let after = buffers a.after.now.window a.after.now.records a.after.now.names a.after.now.missing in
    other_missing before after c.same_name.ensures c.if-not-same_name.false c.same_name-2.ensures c.if-not-same_name-2.false c.same_name-3.ensures
    c.if-not-same_name-3.false c.same_name-4.ensures c.if-not-same_name-4.true

pub returns : goal.returns
returns c =
    let a = c.args in
    let before = buffers a.self.now.window a.self.now.records a.self.now.names a.self.now.missing in
    let after = buffers a.after.now.window a.after.now.records a.after.now.names a.after.now.missing in
    all_same before after c.same_name.ensures c.if-not-same_name.false c.same_name-2.ensures c.if-not-same_name-2.false c.same_name-3.ensures
    c.if-not-same_name-3.false c.same_name-4.ensures c.if-not-same_name-4.false
