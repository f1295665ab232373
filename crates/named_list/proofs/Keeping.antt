-- Things under the bytes of their names.
use Rattle.std.proofs.Common.{◌≡◌, ◌+◌, ◌<◌, ◌^◌, ℕ, cond, not, List, [], ◌∷◌, ◌++◌, Some, None, Vec, length, map, take, position, nat_lt, refl, sym, ap, ◌∙◌, arith}
use Rattle.std.specs.List.{position_or_len}
use Rattle.std.specs.Map.{keys_of, lookup, values_of}
use Rattle.std.specs.Str.{bytes_eq}
use Rattle.std.proofs.Math.ListN.{length-map}
use Rattle.std.proofs.lemmas.List.{length-take, length_push, map-append, take-map}
use Rattle.indexmap.proofs.MapLemmas.{Missing-position, absent_from_lookup, insert_entry-absent}
use Rattle.indexmap.specs.IndexMap.{insert_entry}
use Rattle.named_list.specs.Kept.{IsKept}
use Rattle.named_list.specs.Naming.{id_named, place_named}
use Rattle.named_list.proofs.Naming.{distinct-cut, distinct-push, unfound}

module _ {A Z : Type 0} (name_of : A → List ℕ) where
  -- the keys have the bytes of the names
  abbrev pub AreKeyed : List (Vec ℕ Z × A) → Type 0
  AreKeyed entries = map (λ entry. entry.0.items) entries ≡ map (λ entry. name_of entry.1) entries

  walks_alike : (entries : List (Vec ℕ Z × A)) (name : List ℕ) → AreKeyed entries
      → position_or_len (λ key. bytes_eq name key.items) (keys_of entries) ≡ position_or_len (λ thing. bytes_eq name (name_of thing)) (values_of entries)
  walks_alike [] name keyed = refl
  walks_alike (e ∷ entries) name keyed =
      let head : e.0.items ≡ name_of e.1 = cc in
      let tail : AreKeyed entries = cc in
      ap (λ bytes. cond (not (bytes_eq name bytes)) (1 + position_or_len (λ key. bytes_eq name key.items) (keys_of entries)) 0) head
      ∙ ap (λ n. cond (not (bytes_eq name (name_of e.1))) (1 + n) 0) (walks_alike entries name tail)

  -- looking a key up is looking a name up
  pub keyed_place : (entries : List (Vec ℕ Z × A)) (name : List ℕ) → AreKeyed entries
      → position (λ key. bytes_eq name key.items) (keys_of entries) ≡ place_named name_of (values_of entries) name
  keyed_place entries name keyed =
      let walks = walks_alike entries name keyed in
      let lengths : length (keys_of entries) ≡ length (values_of entries) = length-map entries (λ e. e.0) ∙ sym (length-map entries (λ e. e.1)) in
      (λ i. cond (nat_lt (walks i) (lengths i)) (Some (walks i)) None)

  -- a name that isn't found is no key
  pub absent_key : (entries : List (Vec ℕ Z × A)) (key : Vec ℕ Z) → AreKeyed entries → id_named name_of (values_of entries) key.items ≡ None
      → lookup (λ other. bytes_eq key.items other.items) entries ≡ None
  absent_key entries key keyed new =
      (Missing-position (λ other. bytes_eq key.items other.items) entries (keyed_place entries key.items keyed ∙ unfound _ new)).value

  kept-push : (entries : List (Vec ℕ Z × A)) (key : Vec ℕ Z) (thing : A) → IsKept name_of entries → key.items ≡ name_of thing
      → id_named name_of (values_of entries) (name_of thing) ≡ None → length entries + 1 < 2 ^ 32 → IsKept name_of (entries ++ (key, thing) ∷ [])
  kept-push entries key thing kept named new room = record {
    keyed = map-append (λ e. e.0.items) entries ((key, thing) ∷ [])
        ∙ (λ i. kept.keyed i ++ named i ∷ [])
        ∙ sym (map-append (λ e. name_of e.1) entries ((key, thing) ∷ []));
    distinct = rw (map-append (λ e. e.1) entries ((key, thing) ∷ [])) (distinct-push name_of (values_of entries) thing kept.distinct (unfound _ new));
    few = omega (arith, length_push entries (key, thing));
  }

  -- the entries after a thing is entered
  pub record Entered (things : List A) (thing : A) (after : List (Vec ℕ Z × A)) : Type 0 where
    pub kept : IsKept name_of after
    pub is : values_of after ≡ things ++ thing ∷ []
    pub count : length after ≡ length things + 1

  -- a thing goes last under a name that isn't found
  pub entered : (entries after : List (Vec ℕ Z × A)) (key : Vec ℕ Z) (things : List A) (thing : A)
      → IsKept name_of entries → values_of entries ≡ things → id_named name_of things (name_of thing) ≡ None → length things + 1 < 2 ^ 32
      → key.items ≡ name_of thing → after ≡ insert_entry (λ a b. bytes_eq a.items b.items) entries key thing → Entered things thing after
  entered entries after key things thing kept seen new room named is =
      let absent = rw (← seen) at new in
      let none = absent_key entries key kept.keyed (ap (id_named name_of (values_of entries)) named ∙ absent) in
      let last : after ≡ entries ++ (key, thing) ∷ [] = is ∙ insert_entry-absent (λ a b. bytes_eq a.items b.items) key thing entries (absent_from_lookup _ entries none) in
      let size : length entries ≡ length things = sym (length-map entries (λ e. e.1)) ∙ ap length seen in
      record {
        kept = rw last (kept-push entries key thing kept named absent (omega arith));
        is = rw (last, ← seen) (map-append (λ e. e.1) entries ((key, thing) ∷ []));
        count = ap length last ∙ omega (arith, length_push entries (key, thing));
      }

  -- the first things alone
  pub kept-cut : (n : ℕ) (entries : List (Vec ℕ Z × A)) → IsKept name_of entries → IsKept name_of (take n entries)
  kept-cut n entries kept = record {
    keyed = sym (take-map (λ e. e.0.items) n entries) ∙ ap (take n) kept.keyed ∙ take-map (λ e. name_of e.1) n entries;
    distinct = rw (← take-map (λ e. e.1) n entries) (distinct-cut name_of n (values_of entries) kept.distinct);
    few = omega (arith, length-take n entries, kept.few);
  }
