-- Objects that are spelled out are read as they are.
use Rattle.std.proofs.Common.{◌≡◌, ℕ, Bool, true, false, List, [], ◌∷◌, ◌++◌, Option, Some, None, Result, codes, fold, refl, sym, ap, ◌∙◌, append_assoc}
use Rattle.std.proofs.lemmas.Bool.{true≢false}
use Rattle.std.proofs.lemmas.List.{append-nil}
use Rattle.std.proofs.lemmas.Slice.Eq.{bytes_eq-Decides}
use Rattle.std.specs.List.{AllByRecursion, flat_map}
use Rattle.std.specs.Str.{bytes_eq}
use Rattle.lef_forms.specs.declared.form.Form.{Form}
use Rattle.lef_forms.specs.declared.form.Form.TheVariants as form
use Rattle.lef_forms.specs.declared.form.Statement.{Statement}
use Rattle.lef_forms.specs.declared.form.Statement.TheVariants as statement
use Rattle.lef_forms.specs.declared.keyword.Keyword.{Keyword}
use Rattle.ld_forms.specs.declared.passing.Passed.{Passed}
use Rattle.ld_forms.specs.declared.passing.Passed.TheVariants as passed
use Rattle.ld_forms.specs.declared.passing.Passing.{Passing}
use Rattle.ld_forms.specs.declared.passing.Passing.TheVariants as passing
use Rattle.ld_forms.specs.declared.place.Place.{Place}
use Rattle.ld_forms.specs.declared.place.Place.TheVariants as place
use Rattle.ld_forms.specs.Passing.{pass_step, passing_of}
use Rattle.ld_reader.specs.declared.reader.Reader.{Reader}
use Rattle.ld_reader.specs.Due.{in_form as form_due, passing as passing_due}
use Rattle.ld_reader.specs.Reading.{after, begun_by as begun_with, by_passed, in_passing, reader}
use Rattle.lef_forms.specs.declared.class.Class.{Class}
use Rattle.lef_forms.specs.declared.class.Class.TheVariants as class
use Rattle.lef_forms.specs.declared.kind.LefKind.{LefKind}
use Rattle.ld_forms.specs.Places.{fit_in, is_semicolon, left_out}
use Rattle.ld_reader.specs.Laws.{run}
use Rattle.ld_reader.specs.Reading.{between, by_fit, in_form, moved, step_of, whole}
use Rattle.lef_forms.specs.Classes.{judged}
use Rattle.lef_forms.specs.declared.word_set.WordSet.{WordSet}
use Rattle.lef_forms.specs.declared.word_set.WordSet.TheVariants as set
use Rattle.lef_forms.specs.Forms.{form_of}
use Rattle.lef_forms.specs.Keywords.{is, text_of}
use Rattle.ld_forms.specs.Names.{is_name}
use Rattle.lef_forms.specs.Numbers.{is_number}
use Rattle.lef_forms.specs.Symmetry.{symmetry_word}
use Rattle.lef_forms.specs.WordSets.{has, symmetry_in}
use Rattle.lef_drafts.specs.declared.draft.Draft.TheVariants as draft
use Rattle.lef_tree.specs.declared.tree.LefItem.TheVariants as item
use Rattle.lef_tree.specs.declared.tree.LefLayer.{LefLayer}
use Rattle.lef_tree.specs.declared.tree.LefSite.{LefSite}
use Rattle.lef_drafts.specs.Drafts.{close, layer_set, new_layer, new_site, opened, section_of, set as set_of, site_set}
use Rattle.lef_reader.specs.declared.so_far.SoFar.{SoFar}
use Rattle.lef_reader.specs.Laws.{AnswersAreOne, LayerLinesAreRead, LayersAreRead, OthersArePassedOver, PartsArePassedOver, Reads, SiteLinesAreRead, SitesAreRead, in_text, with_draft, with_item}
use Rattle.lef_reader.specs.Reading.{begun_by, begun_in, closed_of, closing, counted, rules, set_in}
use Rattle.lef_reader.specs.Spelling.{AreOther, ClassIs, DirectionIs, IsLayerLine, IsSiteLine, LayerLine, PitchIs, PitchesAre, SiteLine, SizeIs, SpacingIs, SymmetryIs, TypeIs, WidthIs, is_over, is_passed, is_whole, layer_of, layer_with, layer_words, semicolon, site_of, site_with, site_words}
use Rattle.lef_drafts.specs.Values.{Words}

pub same_bytes : (xs : List ℕ) → bytes_eq xs xs ≡ true
same_bytes xs = (bytes_eq-Decides xs xs).1 refl

-- a `;` is in no set of symmetries
pub no_symmetry : has set.Symmetry semicolon ≡ false
unfolding has symmetry_in symmetry_word
no_symmetry = refl

-- a keyword that isn't in a set is none of its words
pub not_keyword : (k : Keyword) (fits : List ℕ → Bool) (w : List ℕ) → fits (text_of k) ≡ false → fits w ≡ true → is k w ≡ false
unfolding is
not_keyword k fits w unlike alike = elim (is k w) as (λ b. is k w ≡ b → b ≡ false) [
  | true ↦ λ e. let same : w ≡ text_of k = (bytes_eq-Decides w (text_of k)).0 e in absurd (true≢false (sym alike ∙ ap fits same ∙ unlike))
  | false ↦ λ e. refl
] refl

no_number : is_number semicolon ≡ false
unfolding is_number
no_number = refl

-- ---- statements, one by one

-- any statements of a section, where each is read
module _ {A L : Type 0} (state : A → SoFar) (words_of : L → Words) (with_line : A → L → A) (IsLine : L → Type 0) where
  pub lines-read : ((a : A) (line : L) → IsLine line → Reads (state a) (words_of line) (state (with_line a line)))
      → (a : A) (lines : List L) → AllByRecursion IsLine lines → Reads (state a) (flat_map words_of lines) (state (fold with_line a lines))
  lines-read each a [] all rest = refl
  lines-read each a (line ∷ lines) all rest =
      ap (run rules (in_text (state a))) (append_assoc (words_of line) (flat_map words_of lines) rest)
      ∙ each a line all.0 (flat_map words_of lines ++ rest)
      ∙ lines-read each (with_line a line) lines all.1 rest

-- in a statement of a text that goes on, with these places left
abbrev in_statement : SoFar → Words → Statement → List (Place Class) → Reader SoFar Class Statement
in_statement so_far values s places = reader (record so_far { done = false }) values (form_due s places)

-- behind a statement that is whole
abbrev behind_whole : SoFar → Words → Statement → Words → Result (Reader SoFar Class Statement) LefKind
behind_whole so_far values s rest = after rules (whole rules (record so_far { done = false }) values s) (λ next. run rules next rest)

-- words that aren't looked at before the `;` of a statement
pub through-read : (s : Statement) (so_far : SoFar) (values others rest : Words) → AreOther others
    → run rules (in_statement so_far values s (place.Through ∷ [])) (others ++ semicolon ∷ rest) ≡ behind_whole so_far values s rest
unfolding run step_of in_form by_fit fit_in left_out is_semicolon
through-read s so_far values [] rest all = refl
through-read s so_far values (w ∷ others) rest all =
    let other = all.0 in rw other (through-read s so_far values others rest all.1)

-- further words of a set before the `;` of a statement
pub more-read : (s : Statement) (words : WordSet) → has words semicolon ≡ false
    → (so_far : SoFar) (values others rest : Words) → AllByRecursion (λ v. has words v ≡ true) others
    → run rules (in_statement so_far values s (place.More (class.OneOf words) ∷ place.End ∷ [])) (others ++ semicolon ∷ rest) ≡ behind_whole so_far (values ++ others) s rest
unfolding run step_of in_form by_fit fit_in left_out is_semicolon judged moved
more-read s words unlike so_far values [] rest all = rw (unlike, append-nil values) refl
more-read s words unlike so_far values (w ∷ others) rest all =
    let fits = all.0 in
    rw (fits, fits) (more-read s words unlike so_far (values ++ w ∷ []) others rest all.1
    ∙ ap (λ vs. behind_whole so_far vs s rest) (append_assoc values (w ∷ []) others))

pub layer-line-read : LayerLinesAreRead
unfolding run step_of between moved in_form by_fit whole fit_in left_out is_semicolon judged begun_in begun_by form_of is set_in set_of layer_set
layer-line-read so_far layer (TypeIs w) fits rest = rw fits refl
layer-line-read so_far layer (DirectionIs w) fits rest = rw fits refl
layer-line-read so_far layer (PitchIs a) fits rest = rw (fits, no_number) refl
layer-line-read so_far layer (PitchesAre a b) fits rest =
    let a_fits = fits.0 in let b_fits = fits.1 in rw (a_fits, b_fits, b_fits) refl
layer-line-read so_far layer (WidthIs a) fits rest = rw fits refl
layer-line-read so_far layer (SpacingIs a others) fits rest =
    let a_fits = fits.0 in
    rw (a_fits, append_assoc others (semicolon ∷ []) rest) (through-read statement.Spacing (with_draft so_far (draft.Layer layer)) (a ∷ []) others rest fits.1)

pub site-line-read : SiteLinesAreRead
unfolding run step_of between moved in_form by_fit whole fit_in left_out is_semicolon judged begun_in begun_by form_of is set_in set_of site_set
site-line-read so_far site (ClassIs w) fits rest = rw fits refl
site-line-read so_far site (SymmetryIs w others) fits rest =
    let w_fits = fits.0 in
    rw (w_fits, append_assoc others (semicolon ∷ []) rest) (more-read statement.Symmetry set.Symmetry no_symmetry (with_draft so_far (draft.Site site)) (w ∷ []) others rest fits.1)
site-line-read so_far site (SizeIs w h) fits rest = let w_fits = fits.0 in let h_fits = fits.1 in rw (w_fits, h_fits) refl

-- ---- whole sections

layer-opens : (so_far : SoFar) (name : List ℕ) (rest : Words) → is_name name ≡ true
    → run rules (in_text (with_draft so_far draft.Top)) (codes "LAYER" ∷ name ∷ rest) ≡ run rules (in_text (with_draft so_far (draft.Layer (new_layer name)))) rest
unfolding run step_of between moved in_form by_fit whole fit_in left_out is_semicolon judged begun_in begun_by form_of is set_in set_of opened
layer-opens so_far name rest fits = rw (fits, fits) refl

layer-ends : (so_far : SoFar) (layer : LefLayer) (rest : Words)
    → run rules (in_text (with_draft so_far (draft.Layer layer))) (codes "END" ∷ layer.name ∷ rest) ≡ run rules (in_text (with_item so_far (item.Layer layer))) rest
unfolding run step_of between moved in_form by_fit whole fit_in left_out is_semicolon judged begun_in begun_by form_of is set_in closing closed_of close
layer-ends so_far layer rest = rw (same_bytes layer.name) refl

layer_name : (layer : LefLayer) (lines : List LayerLine) → (fold layer_with layer lines).name ≡ layer.name
layer_name layer [] = refl
layer_name layer (TypeIs w ∷ lines) = layer_name (layer_with layer (TypeIs w)) lines
layer_name layer (DirectionIs w ∷ lines) = layer_name (layer_with layer (DirectionIs w)) lines
layer_name layer (PitchIs a ∷ lines) = layer_name (layer_with layer (PitchIs a)) lines
layer_name layer (PitchesAre a b ∷ lines) = layer_name (layer_with layer (PitchesAre a b)) lines
layer_name layer (WidthIs a ∷ lines) = layer_name (layer_with layer (WidthIs a)) lines
layer_name layer (SpacingIs a others ∷ lines) = layer_name (layer_with layer (SpacingIs a others)) lines

pub layers-read : LayersAreRead
layers-read so_far name lines named all rest =
    let open_layer = λ (r : Words). run rules (in_text (with_draft so_far (draft.Layer (new_layer name)))) r in
    let ended_layer = λ (n : List ℕ). run rules (in_text (with_draft so_far (draft.Layer (layer_of name lines)))) (codes "END" ∷ n ∷ rest) in
    layer-opens so_far name ((flat_map layer_words lines ++ codes "END" ∷ name ∷ []) ++ rest) named
    ∙ ap open_layer (append_assoc (flat_map layer_words lines) (codes "END" ∷ name ∷ []) rest)
    ∙ lines-read (λ l. with_draft so_far (draft.Layer l)) layer_words layer_with IsLayerLine (layer-line-read so_far) (new_layer name) lines all (codes "END" ∷ name ∷ rest)
    ∙ ap ended_layer (sym (layer_name (new_layer name) lines))
    ∙ layer-ends so_far (layer_of name lines) rest

site-opens : (so_far : SoFar) (name : List ℕ) (rest : Words) → is_name name ≡ true
    → run rules (in_text (with_draft so_far draft.Top)) (codes "SITE" ∷ name ∷ rest) ≡ run rules (in_text (with_draft so_far (draft.Site (new_site name)))) rest
unfolding run step_of between moved in_form by_fit whole fit_in left_out is_semicolon judged begun_in begun_by form_of is set_in set_of opened
site-opens so_far name rest fits = rw (fits, fits) refl

site-ends : (so_far : SoFar) (site : LefSite) (rest : Words)
    → run rules (in_text (with_draft so_far (draft.Site site))) (codes "END" ∷ site.name ∷ rest) ≡ run rules (in_text (with_item so_far (item.Site site))) rest
unfolding run step_of between moved in_form by_fit whole fit_in left_out is_semicolon judged begun_in begun_by form_of is set_in closing closed_of close
site-ends so_far site rest = rw (same_bytes site.name) refl

site_name : (site : LefSite) (lines : List SiteLine) → (fold site_with site lines).name ≡ site.name
site_name site [] = refl
site_name site (ClassIs w ∷ lines) = site_name (site_with site (ClassIs w)) lines
site_name site (SymmetryIs w others ∷ lines) = site_name (site_with site (SymmetryIs w others)) lines
site_name site (SizeIs w h ∷ lines) = site_name (site_with site (SizeIs w h)) lines

pub sites-read : SitesAreRead
sites-read so_far name lines named all rest =
    let open_site = λ (r : Words). run rules (in_text (with_draft so_far (draft.Site (new_site name)))) r in
    let ended_site = λ (n : List ℕ). run rules (in_text (with_draft so_far (draft.Site (site_of name lines)))) (codes "END" ∷ n ∷ rest) in
    site-opens so_far name ((flat_map site_words lines ++ codes "END" ∷ name ∷ []) ++ rest) named
    ∙ ap open_site (append_assoc (flat_map site_words lines) (codes "END" ∷ name ∷ []) rest)
    ∙ lines-read (λ s. with_draft so_far (draft.Site s)) site_words site_with IsSiteLine (site-line-read so_far) (new_site name) lines all (codes "END" ∷ name ∷ rest)
    ∙ ap ended_site (sym (site_name (new_site name) lines))
    ∙ site-ends so_far (site_of name lines) rest

-- ---- parts that are passed over

-- in a part of a text that goes on that is passed over, of which these words are kept
abbrev in_part : SoFar → Words → Passing Class → Reader SoFar Class Statement
in_part so_far kept p = reader (record so_far { done = false }) kept (passing_due p)

-- on with a word of a part that is passed over
passed-on : (so_far : SoFar) (p : Passed Class) (kept : Words) (w : List ℕ) (words rest : Words)
    → ((next : Passing Class) (names : Words) → is_whole next names words ≡ true → run rules (in_part so_far names next) (words ++ rest) ≡ run rules (in_text so_far) rest)
    → is_over p kept w words (λ next names. is_whole next names words) ≡ true
    → after rules (by_passed rules (record so_far { done = false }) kept w p) (λ next. run rules next (words ++ rest)) ≡ run rules (in_text so_far) rest
passed-on so_far (passed.Goes next) kept w words rest on h = on next kept h
passed-on so_far (passed.Names next) kept w words rest on h = on next (kept ++ w ∷ []) h
passed-on so_far passed.Ends kept w [] rest on h = refl
passed-on so_far passed.Ends kept w (v ∷ words) rest on h = cc
passed-on so_far passed.Behind kept w words rest on h = cc

part-passed : (so_far : SoFar) (p : Passing Class) (kept words rest : Words) → is_whole p kept words ≡ true
    → run rules (in_part so_far kept p) (words ++ rest) ≡ run rules (in_text so_far) rest
unfolding run step_of in_passing is_whole
part-passed so_far p kept [] rest h = cc
part-passed so_far p kept (w ∷ words) rest h = passed-on so_far (pass_step judged p kept w) kept w words rest (λ next names. part-passed so_far next names words rest) h

begun-passed : (so_far : SoFar) (first : List ℕ) (o : Option Form) (words rest : Words) → is_passed o words ≡ true
    → after rules (begun_with rules (record so_far { done = false }) [] first (begun_by (record so_far { done = false }) o)) (λ next. run rules next (words ++ rest)) ≡ run rules (in_text (counted so_far)) rest
unfolding begun_by
begun-passed so_far first (Some (form.Taken s)) words rest h = cc
begun-passed so_far first (Some (form.Passed extent)) words rest h = part-passed (counted so_far) (passing_of extent) [] words rest h
begun-passed so_far first None words rest h = part-passed (counted so_far) passing.Statement [] words rest h

pub parts-passed : PartsArePassedOver
unfolding run step_of between begun_in
parts-passed so_far first words fits rest =
    let no_end = fits.0 in let no_semicolon = fits.1 in
    rw (no_end, no_semicolon) (begun-passed so_far first (form_of (section_of so_far.draft) first) words rest fits.2)

others-whole : (others : Words) → AreOther others → is_whole passing.Statement [] (others ++ semicolon ∷ []) ≡ true
unfolding is_whole pass_step is_semicolon
others-whole [] all = refl
others-whole (w ∷ others) all = let other = all.0 in rw other (others-whole others all.1)

pub others-passed : OthersArePassedOver
others-passed so_far first others no_end no_semicolon no_row all =
    let passed : is_passed (form_of (section_of so_far.draft) first) (others ++ semicolon ∷ []) ≡ true = rw no_row (others-whole others all) in
    parts-passed so_far first (others ++ semicolon ∷ []) (no_end, no_semicolon, passed)

-- ---- texts

pub answers-one : AnswersAreOne
answers-one text one other h k = sym h ∙ k
