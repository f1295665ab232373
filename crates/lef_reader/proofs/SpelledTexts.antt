-- Texts that are spelled out are read as they are.
use Rattle.std.proofs.Common.{◌≡◌, ℕ, true, List, [], ◌∷◌, ◌++◌, Some, None, Ok, codes, is_some, map, unwrap_or, refl, sym, ap, ◌∙◌, append_assoc}
use Rattle.std.specs.List.{flat_map}
use Rattle.ld_words.specs.declared.word.Word.{Word}
use Rattle.ld_words.specs.Reading.{Done, Ending, Faulty}
use Rattle.lef_forms.specs.Forms.{form_of}
use Rattle.lef_forms.specs.Keywords.{is}
use Rattle.ld_forms.specs.Names.{per_micron_in}
use Rattle.ld_forms.specs.Places.{fit_in, is_semicolon, left_out}
use Rattle.ld_reader.specs.Laws.{LinesSayNothing, WordsBehindAreLeft as LeaveBehind, run}
use Rattle.ld_reader.specs.Reading.{between, by_fit, in_form, moved, step_of, whole, read_from, left_behind, reader, at}
use Rattle.lef_forms.specs.Classes.{judged}
use Rattle.lef_drafts.specs.declared.draft.Draft.TheVariants as draft
use Rattle.ld_forms.specs.declared.place.Place.TheVariants as place
use Rattle.ld_reader.specs.Due.{in_form as form_due}
use Rattle.lef_forms.specs.declared.class.Class.TheVariants as class
use Rattle.lef_forms.specs.declared.form.Statement.TheVariants as statement
use Rattle.lef_reader.specs.declared.so_far.SoFar.{SoFar}
use Rattle.lef_tree.specs.declared.tree.LefTree.{LefTree}
use Rattle.lef_drafts.specs.Drafts.{close, opened, set as set_of, units_set}
use Rattle.lef_reader.specs.Laws.{Reads, TextsAreRead, WordsBehindAreLeft, in_text}
use Rattle.lef_reader.specs.Reading.{begun_by, begun_in, closed_of, closing, held, rules, set_in, start, tree_in}
use Rattle.lef_reader.specs.TextSpelling.{IsPart, LayerIs, MacroIs, SiteIs, TextPart, UnitsAre, ViaIs, empty_tree, part_words, tree_spelled, tree_with}
use Rattle.lef_drafts.specs.Values.{Words}
use Rattle.lef_reader.proofs.Spelled.{layers-read, lines-read, sites-read}
use Rattle.lef_reader.proofs.SpelledMacros.{macros-read, vias-read}

-- at the top, behind what this tree has
abbrev behind : LefTree → SoFar
behind tree = held tree.items tree.passed draft.Top

-- units that a word states
stated : (n : List ℕ) → is_some (per_micron_in n) ≡ true → per_micron_in n ≡ Some (unwrap_or (per_micron_in n) 0)
stated n fits = elim (per_micron_in n) as (λ o. is_some o ≡ true → o ≡ Some (unwrap_or o 0)) [ None ↦ λ h. cc | Some x ↦ λ h. refl ] fits

units-read : (tree : LefTree) (n : List ℕ) → is_some (per_micron_in n) ≡ true → Reads (behind tree) (part_words (UnitsAre n)) (behind (tree_with tree (UnitsAre n)))
unfolding run step_of between moved in_form by_fit whole fit_in left_out is_semicolon judged begun_in begun_by form_of is set_in closing set_of opened units_set closed_of close
units-read tree n fits rest = let known = stated n fits in rw (fits, known) refl

part-read : (tree : LefTree) (part : TextPart) → IsPart part → Reads (behind tree) (part_words part) (behind (tree_with tree part))
part-read tree (UnitsAre n) fits = units-read tree n fits
part-read tree (LayerIs name lines) fits = layers-read (behind tree) name lines fits.0 fits.1
part-read tree (ViaIs name header more) fits = vias-read (behind tree) name header more fits.0 fits.1
part-read tree (SiteIs name lines) fits = sites-read (behind tree) name lines fits.0 fits.1
part-read tree (MacroIs name lines) fits = macros-read (behind tree) name lines fits.0 fits.1

-- behind END LIBRARY
abbrev ended : LefTree → SoFar
ended tree = record (behind tree) { done = true }

library-ends : (tree : LefTree) → run rules (in_text (behind tree)) (codes "END" ∷ codes "LIBRARY" ∷ []) ≡ Ok (at (ended tree))
unfolding run step_of between moved in_form by_fit whole fit_in left_out is_semicolon judged begun_in begun_by form_of is set_in closing closed_of close
library-ends tree = refl

-- where no more word is due the tree is what was read
done_tree : (tree : LefTree) (words : List Word) (ending : Ending) → read_from rules (at (ended tree)) words ending ≡ Ok (at (ended tree))
unfolding read_from
done_tree tree [] (Done line) = refl
done_tree tree [] (Faulty f) = refl
done_tree tree (w ∷ words) ending = refl

pub texts-read : LinesSayNothing rules → TextsAreRead
texts-read lines-nothing parts words more ending all spelled =
    let sections = lines-read behind part_words tree_with IsPart part-read empty_tree parts all (codes "END" ∷ codes "LIBRARY" ∷ []) in
    let whole_text = ap (run rules (at start)) spelled ∙ sections ∙ library-ends (tree_spelled parts) in
    ap tree_in (lines-nothing (at start) (at (ended (tree_spelled parts))) words more ending whole_text ∙ done_tree (tree_spelled parts) more ending)

-- ---- what is left

-- words whose last one is known
record EndWith (words : List Word) (front : Words) (last : List ℕ) : Type 0 where
  before : List Word
  word : Word
  words_are : words ≡ before ++ word ∷ []
  front_is : map (λ w. w.bytes) before ≡ front
  last_is : word.bytes ≡ last

end_with : (words : List Word) (front : Words) (last : List ℕ) → map (λ w. w.bytes) words ≡ front ++ last ∷ [] → EndWith words front last
end_with [] [] last h = cc
end_with [] (x ∷ front) last h = cc
end_with (w ∷ []) [] last h = record { before = []; word = w; words_are = refl; front_is = refl; last_is = cc }
end_with (w ∷ v ∷ words) [] last h = cc
end_with (w ∷ words) (x ∷ front) last h =
    let rest = end_with words front last cc in
    let same : w.bytes ≡ x = cc in
    let others = rest.front_is in
    record { before = w ∷ rest.before; word = rest.word; words_are = ap (λ ws. w ∷ ws) rest.words_are; front_is = cc; last_is = rest.last_is }

library-due : (tree : LefTree) → run rules (in_text (behind tree)) (codes "END" ∷ []) ≡ Ok (reader (behind tree) [] (form_due statement.End (place.One class.Every ∷ [])))
unfolding run step_of between moved in_form by_fit whole fit_in left_out is_semicolon judged begun_in begun_by form_of is set_in
library-due tree = refl

done-left : (tree : LefTree) (words : List Word) (ending : Ending) → left_behind rules (at (ended tree)) words ending ≡ record { words = words; ending = ending }
unfolding left_behind
done-left tree [] ending = refl
done-left tree (w ∷ words) ending = refl

library-left : (tree : LefTree) (word : Word) (more : List Word) (ending : Ending) → word.bytes ≡ codes "LIBRARY"
    → left_behind rules (reader (behind tree) [] (form_due statement.End (place.One class.Every ∷ []))) (word ∷ more) ending ≡ record { words = more; ending = ending }
unfolding left_behind run step_of between moved in_form by_fit whole fit_in left_out is_semicolon judged begun_in begun_by form_of is set_in closing closed_of close
library-left tree word more ending h = rw h (done-left tree more ending)

pub texts-left : LeaveBehind rules → WordsBehindAreLeft
texts-left words-left parts words more ending all spelled =
    let tree = tree_spelled parts in
    let sections = flat_map part_words parts in
    let due = reader (behind tree) [] (form_due statement.End (place.One class.Every ∷ [])) in
    let parted = end_with words (sections ++ codes "END" ∷ []) (codes "LIBRARY") (spelled ∙ sym (append_assoc sections (codes "END" ∷ []) (codes "LIBRARY" ∷ []))) in
    let led = ap (run rules (at start)) parted.front_is ∙ lines-read behind part_words tree_with IsPart part-read empty_tree parts all (codes "END" ∷ []) ∙ library-due tree in
    ap (λ (ws : List Word). left_behind rules (at start) (ws ++ more) ending) parted.words_are
    ∙ ap (λ (ws : List Word). left_behind rules (at start) ws ending) (append_assoc parted.before (parted.word ∷ []) more)
    ∙ words-left (at start) due parted.before (parted.word ∷ more) ending refl led
    ∙ library-left tree parted.word more ending parted.last_is
