-- Links in a vector, as the code reads and writes them.
use Rattle.std.proofs.Common.{◌≡◌, ◌≢◌, ◌-◌, ◌<◌, List, ℕ, zero, suc, length, get_or, set, refl, ap, ◌∙◌, arith, append_assoc, sym, [], ◌∷◌, ◌++◌}
use Rattle.link_list.specs.declared.link.Head.{Head}
use Rattle.link_list.specs.declared.link.Link.{Link}
use Rattle.std.proofs.lemmas.List.{length_push}
use Rattle.link_list.specs.Standing.{Stands, members_from}
use Rattle.link_list.specs.VecLinks.{IsList, cell, link_of, members, none, with_link, within}
use Rattle.link_list.proofs.Reading.{members-stands}

pub link_of-at : (links : List Link) (id : ℕ) (link : Link) → 0 < id → link ≡ get_or links (id - 1) none → link ≡ link_of links id
link_of-at links zero link h e = absurd (omega (arith, h))
link_of-at links (suc place) link h e =
    let at : suc place - 1 ≡ place = omega arith in e ∙ ap (λ k. get_or links k none) at

pub with_link-at : (links after : List Link) (id : ℕ) (link : Link) → 0 < id → after ≡ set links (id - 1) link → after ≡ with_link links id link
with_link-at links after zero link h e = absurd (omega (arith, h))
with_link-at links after (suc place) link h e =
    let at : suc place - 1 ≡ place = omega arith in e ∙ ap (λ k. set links k link) at

-- a head that stands for a list stands for the one that is read off the links
pub is_list : (links : List Link) (head : Head) (ids : List ℕ) → Stands (cell links) (link_of links) head ids → (IsList links head) × (members links head ≡ ids)
is_list links head ids h =
    let e = members-stands (cell links) (link_of links) refl head ids (length links) (λ id is. (within links id is).1) h in
    (rw e h, e)

-- one more member is listed
members_from-more : (link : ℕ → Link) (most id : ℕ) → id ≢ 0 → members_from link (suc most) id ≡ id ∷ members_from link most (link id).after
members_from-more link most zero some = absurd (some refl)
members_from-more link most (suc id) some = refl

pub listed_more : (link : ℕ → Link) (list more all : List ℕ) (most next after : ℕ) → length list < most → next ≢ 0 → more ≡ list ++ next ∷ [] → after ≡ (link next).after → list ++ members_from link (most - length list) next ≡ all → more ++ members_from link (most - length more) after ≡ all
listed_more link list more all most next after room some is e h =
    let left : most - length list ≡ suc (most - length more) = omega (arith, ap length is ∙ length_push list next) in
    ap (λ l. l ++ members_from link (most - length more) after) is
    ∙ append_assoc list (next ∷ []) (members_from link (most - length more) after)
    ∙ ap (λ a. list ++ next ∷ members_from link (most - length more) a) e
    ∙ sym (ap (λ l. list ++ l) (ap (λ n. members_from link n next) left ∙ members_from-more link (most - length more) next some))
    ∙ h
