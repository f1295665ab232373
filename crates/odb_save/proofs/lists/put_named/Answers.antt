use Rattle.std.proofs.Common.{◌≡◌, ◌++◌, ◌+◌, ◌<◌, List, ℕ, Some, drop, length, slice_get, ap, ◌∙◌, arith}
use Rattle.std.specs.List.{flat_map}
use Rattle.std.proofs.lemmas.List.{drop_more}
use Rattle.std.proofs.lemmas.Option.{get_or_from_slice_get}
use Rattle.saved_reader.proofs.Appending.{one_appended}
use Rattle.odb_save.proofs.lists.put_named.Goals as goal

one_more : {A : Type 0} (bytes_of : A → List ℕ) (things : List A) (place : ℕ) (x : A) → place < length things → slice_get things place ≡ Some x
    → flat_map bytes_of (drop place things) ≡ bytes_of x ++ flat_map bytes_of (drop (place + 1) things)
one_more bytes_of things place x within here =
    ap (flat_map bytes_of) (drop_more things place x within)
    ∙ ap (λ y. bytes_of y ++ flat_map bytes_of (drop (place + 1) things)) (get_or_from_slice_get things place x x here)

pub put-requires : goal.put-requires
put-requires g c = c.requires c.loop-place.place c.thing_at.result.now c.thing_at.ensures

pub loop-place-preserved : goal.loop-place-preserved
loop-place-preserved g c = record {
  bytes = one_appended _ _ _ _ _ _ c.in_ok-put.ensures.ok (one_more g.T.Saves.bytes_of c.args.things.now c.loop-place.place c.thing_at.result.now (omega arith) c.thing_at.ensures) c.loop-place.invariant.bytes;
  vector = c.in_ok-put.ensures.vector ∙ c.loop-place.invariant.vector;
}
