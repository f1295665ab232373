-- What the words that were read have left of the room.
use Rattle.std.proofs.Common.{◌≡◌, ◌+◌, ◌++◌, ◌<◌, ◌&&◌, ℕ, Bool, true, false, List, [], ◌∷◌, Option, Some, None, Ok, Err, if◌then◌else◌, codes, length, refl, sym, ap, ◌∙◌, arith, inl, inr}
use Rattle.std.specs.List.{flat_map}
use Rattle.std.specs.Option.{option_map}
use Rattle.std.specs.Prelude.{nat_lt}
use Rattle.std.proofs.lemmas.Bool.{and_parts, ltb-true}
use Rattle.odb_fields.specs.Reading.{◌>>=◌}
use Rattle.wires.specs.declared.fault.PathFlaw.TheVariants as flaw
use Rattle.wires.specs.declared.open_path.OpenPath.{OpenPath}
use Rattle.wires.specs.declared.path_reader.PathReader.{PathReader}
use Rattle.wires.specs.declared.path_word.PathWord.TheVariants as word
use Rattle.wires.specs.declared.spot.Spot.{Spot}
use Rattle.wires.specs.declared.spot.Spot.TheVariants as spot
use Rattle.wires.specs.Laws.{WordsTakeRoom}
use Rattle.wires.specs.PathPlaces.{ends, name_in, number_at, whole}
use Rattle.wires.specs.PathReading.{NamedPath, begun, ended, flaw_at, in_path, last_may_end, with_less_room, number_due, or_flaw, path_step, read_all, start, step_of, taken, with_begun, with_ended, with_fault}
use Rattle.wires.specs.PathSpelling.{joined, path_words, paths_words}
use Rattle.wires.specs.PathWords.{is, is_unsupported}
use Rattle.wires.proofs.Sizes.{if_either, if_ok, if_then, keyword_length, ok_same, size, size_both, size_joined, size_push, some_same}
use Rattle.wires.proofs.WordSizes.{IsUnset, ended_size, is_the_name, open_size, path_grows}

-- the words of paths that have ended, and a `NEW` for each
abbrev ended_words : Bool → List NamedPath → List (List ℕ)
ended_words special paths = flat_map (λ p. codes "NEW" ∷ path_words special p) paths

abbrev last_size : Bool → Option OpenPath → ℕ
last_size special None = 0
last_size special (Some o) = open_size special o

abbrev LastIsUnset : Bool → Option OpenPath → Type 0
LastIsUnset special None = Unit {0}
LastIsUnset special (Some o) = IsUnset special o.spot o.path

-- the words so far have left the room that there is
record Fills (special : Bool) (reader : PathReader) : Type 0 where
  same : reader.special ≡ special
  room : reader.room + size (ended_words special reader.done) + last_size special reader.last ≡ 1000001
  unset : LastIsUnset special reader.last

start_fills : (special : Bool) → Fills special (start special)
start_fills special = record { same = refl; room = omega arith; unset = tt }

begun_size : (special : Bool) (layer : List ℕ) → open_size special (begun special layer) ≡ length layer + 1
begun_size true layer = omega arith
begun_size false layer = omega arith

begun_unset : (special : Bool) (layer : List ℕ) → LastIsUnset special (Some (begun special layer))
begun_unset true layer = (refl, refl)
begun_unset false layer = (refl, refl)

layer_fills : (special : Bool) (reader next : PathReader) (bytes : List ℕ) → Fills special reader → reader.last ≡ None → length bytes < reader.room
    → with_begun (name_in bytes) (with_less_room (length bytes + 1) reader) ≡ Some next → Fills special next
layer_fills special reader next bytes fills last fits e =
    elim (name_in bytes) as (λ n. name_in bytes ≡ n → with_begun n (with_less_room (length bytes + 1) reader) ≡ Some next → Fills special next) [
      | Some layer ↦ λ named e.
          let long = begun_size special bytes in
          let room : reader.room + size (ended_words special reader.done) + 0 ≡ 1000001 = rw last at fills.room in
          rw (sym (some_same e), is_the_name bytes layer named, fills.same) (record { same = refl; room = omega (arith, long, room, fits); unset = begun_unset special bytes })
      | None ↦ λ named e. absurd cc
    ] refl e

ends_at_element : (s : Spot) → ends s ≡ true → s ≡ spot.Element
ends_at_element (spot.Head s) e = absurd cc
ends_at_element (spot.Point s) e = absurd cc
ends_at_element (spot.Rect s) e = absurd cc
ends_at_element spot.Element e = refl

new_fills : (special : Bool) (reader : PathReader) (o : OpenPath) (bytes : List ℕ) → Fills special reader → reader.last ≡ Some o → length bytes < reader.room → is word.New bytes ≡ true
    → o.spot ≡ spot.Element → Fills special (with_ended (Some o) (with_less_room (length bytes + 1) reader))
new_fills special reader o bytes fills last fits new at =
    let room : reader.room + size (ended_words special reader.done) + open_size special o ≡ 1000001 = rw last at fills.room in
    let long = keyword_length word.New bytes new in
    let grown = size_push (λ p. codes "NEW" ∷ path_words special p) reader.done (ended o) in
    let whole_size = ended_size special o at in
    record { same = fills.same; room = omega (arith, room, long, grown, whole_size, fits); unset = tt }

path_fills : (special : Bool) (reader next : PathReader) (o : OpenPath) (bytes : List ℕ) → Fills special reader → reader.last ≡ Some o
    → length (whole (number_at o.spot o.former bytes) bytes) < reader.room
    → in_path (number_at o.spot o.former bytes) bytes o (with_less_room (length (whole (number_at o.spot o.former bytes) bytes) + 1) reader) ≡ Some next → Fills special next
path_fills special reader next o bytes fills last fits e =
    let number = number_at o.spot o.former bytes in
    let left = with_less_room (length (whole number bytes) + 1) reader in
    elim (if_either (is word.New bytes && ends o.spot) (option_map (λ n. record left { last = Some n }) (path_step number o bytes)) e) [
      | inl p ↦
          let parts = and_parts (is word.New bytes) (ends o.spot) p.0 in
          let at = ends_at_element o.spot parts.1 in
          let short : length bytes < reader.room = rw at at fits in
          rw (sym p.1, at) (new_fills special reader o bytes fills last short parts.0 at)
      | inr q ↦ elim (path_step number o bytes) as (λ n. path_step number o bytes ≡ n → option_map (λ n. record left { last = Some n }) n ≡ Some next → Fills special next) [
        | Some grown ↦ λ stepped e.
            let room : reader.room + size (ended_words special reader.done) + open_size special o ≡ 1000001 = rw last at fills.room in
            let unset : IsUnset special o.spot o.path = rw last at fills.unset in
            let grows = path_grows special o grown bytes unset stepped in
            let more = grows.size in
            rw (sym (some_same e)) (record { same = fills.same; room = omega (arith, room, more, fits); unset = grows.unset })
        | None ↦ λ stepped e. absurd cc
      ] refl q
    ]

taken_fills : (special : Bool) (reader next : PathReader) (bytes : List ℕ) → Fills special reader → taken (number_due reader.last bytes) bytes reader ≡ Some next → Fills special next
taken_fills special reader next bytes fills e =
    elim reader.last as (λ v. reader.last ≡ v → taken (number_due v bytes) bytes (record reader { last = v }) ≡ Some next → Fills special next) [
      | None ↦ λ last e.
          let p = if_then (nat_lt (length bytes) reader.room) e in
          layer_fills special reader next bytes fills last (ltb-true (length bytes) reader.room p.0) p.1
      | Some o ↦ λ last e.
          let p = if_then (nat_lt (length (whole (number_at o.spot o.former bytes) bytes)) reader.room) e in
          path_fills special reader next o bytes fills last (ltb-true _ reader.room p.0) p.1
    ] refl e

step_fills : (special : Bool) (reader next : PathReader) (bytes : List ℕ) → Fills special reader → step_of reader bytes ≡ Ok next → Fills special next
unfolding step_of
step_fills special reader next bytes fills e = elim (is_unsupported bytes) as (λ b.
    (if b then Err flaw.Unsupported else or_flaw (flaw_at reader.last) (taken (number_due reader.last bytes) bytes reader)) ≡ Ok next → Fills special next) [
      | true ↦ λ e. absurd cc
      | false ↦ λ e.
          elim (taken (number_due reader.last bytes) bytes reader) as (λ t. taken (number_due reader.last bytes) bytes reader ≡ t → or_flaw (flaw_at reader.last) t ≡ Ok next → Fills special next) [
            | Some there ↦ λ took e. taken_fills special reader next bytes fills (took ∙ ap (λ x. Some x) (ok_same e))
            | None ↦ λ took e. absurd cc
          ] refl e
    ] e

all_fill : (special : Bool) (words : List (List ℕ)) (reader last : PathReader) → Fills special reader → read_all reader words ≡ Ok last → Fills special last
all_fill special [] reader last fills e = rw (sym (ok_same e)) fills
all_fill special (bytes ∷ words) reader last fills e =
    elim (step_of reader bytes) as (λ r. step_of reader bytes ≡ r → (with_fault bytes r >>= λ next. read_all next words) ≡ Ok last → Fills special last) [
      | Ok next ↦ λ stepped e. all_fill special words next last (step_fills special reader next bytes fills stepped) e
      | Err flaw.Unsupported ↦ λ stepped e. absurd cc
      | Err flaw.BadNumber ↦ λ stepped e. absurd cc
      | Err flaw.BadName ↦ λ stepped e. absurd cc
      | Err flaw.Unexpected ↦ λ stepped e. absurd cc
    ] refl e

-- ---- where the words end

joined_size : (special : Bool) (q : NamedPath) (paths : List NamedPath) → size (ended_words special (q ∷ paths)) ≡ length (joined (paths_words special (q ∷ paths))) + 5
joined_size special q paths =
    let both = size_both (path_words special q) (ended_words special paths) in
    let after_new = size_both (codes "NEW" ∷ path_words special q) (ended_words special paths) in
    let spaced : size (paths_words special (q ∷ paths)) ≡ length (joined (paths_words special (q ∷ paths))) + 1 = size_joined q.layer _ in
    omega (arith, both, after_new, spaced)

all_joined : (special : Bool) (done : List NamedPath) (p : NamedPath)
    → size (ended_words special done) + 4 + size (path_words special p) ≡ length (joined (paths_words special (done ++ p ∷ []))) + 5
all_joined special [] p = let all = joined_size special p [] in let one = size_both (codes "NEW" ∷ path_words special p) [] in omega (arith, all, one)
all_joined special (q ∷ paths) p =
    let all = joined_size special q (paths ++ p ∷ []) in
    let grown = size_push (λ p. codes "NEW" ∷ path_words special p) (q ∷ paths) p in
    omega (arith, all, grown)

-- what is left of the room, and what the words of paths take
pub words_take : WordsTakeRoom
words_take special words reader paths read ended_so =
    let fills = all_fill special words (start special) reader (start_fills special) read in
    elim reader.last as (λ v.
    reader.last ≡ v → (if last_may_end v then Ok (with_ended v reader).done else Err (flaw_at v)) ≡ Ok paths → reader.room + length (joined (paths_words special paths)) ≡ 1000000) [
      | None ↦ λ last e. absurd cc
      | Some o ↦ λ last e.
          let p = if_ok (ends o.spot) _ e in
          let whole_size = ended_size special o (ends_at_element o.spot p.0) in
          let all = all_joined special reader.done (ended o) in
          let room : reader.room + size (ended_words special reader.done) + open_size special o ≡ 1000001 = rw last at fills.room in
          rw (sym p.1) (omega (arith, whole_size, all, room))
    ] refl ended_so
