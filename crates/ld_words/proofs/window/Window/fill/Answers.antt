use Rattle.std.proofs.Common.{◌≡◌, ◌+◌, ◌-◌, ◌≤◌, List, ℕ, ap, ◌∙◌, length, length-take, length-drop, slice_range, drop, arith}
use Rattle.std.specs.Vec.{with_items}
use Rattle.std.proofs.lemmas.List.{with_items_is}
use Rattle.ld_words.proofs.Windows.{filled, length-put_mid, length-range, same_behind}
use Rattle.ld_words.proofs.window.Window.fill.Goals as goal

pub returns-clause-bytes : goal.returns-clause-bytes
returns-clause-bytes g c =
    let w = c.self.inside in
    let hand = c.args.self.now in
    let held = w.end - w.start in
    let n = c.in_ok-count.count in
    let asked = held + c.min.result - held in
    let moved = c.move_to_front.new.bytes in
    let buffer = c.deref_mut-2.result.now in
    let piece = c.read.new.into in
    let size = c.deref_mut.ensures.len in
    let within : w.end ≤ length w.bytes.items = omega (arith, w.bytes.ok.0, c.self.invariant.within) in
    let short : held ≤ length hand = omega (arith, length-range w.bytes.items w.start w.end c.self.invariant.ordered within, ap length c.self.view_is) in
    let kept : length moved ≡ w.bytes.len = omega (arith, c.move_to_front.auto.bytes, size) in
    let is : buffer ≡ moved = c.deref_mut-2.ensures.value ∙ with_items_is w.bytes moved kept in
    let fits : held + asked ≤ length buffer = omega (arith, c.min.ensures, ap length is, kept, c.self.invariant.size_is, c.requires.room) in
    let len : length piece ≡ asked = omega (arith, c.read.auto.into, length-take asked (drop held buffer), length-drop held buffer) in
    let front : slice_range buffer 0 held ≡ hand = ap (λ (l : List ℕ). slice_range l 0 held) is ∙ c.move_to_front.ensures ∙ ap (λ (l : List ℕ). slice_range l w.start w.end) c.deref_mut.ensures.value ∙ c.self.view_is in
    let items = with_items_is (with_items w.bytes moved) _ (length-put_mid buffer piece held asked fits len ∙ ap length is ∙ kept) in
    let new = ap (λ (l : List ℕ). slice_range l 0 (held + n)) items ∙ filled hand buffer piece held asked n front (omega (arith, fits)) c.in_ok-count.ensures.bound in
    rw new (same_behind hand piece (g.S.Source.left c.args.source.now) (g.S.Source.left c.read.new.self) n c.in_ok-count.ensures.bytes)
