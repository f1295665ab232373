-- What finding by names and the names of objects say of each other, for every kind.
use Rattle.std.proofs.Common.{refl}
use Rattle.odb_base.specs.declared.codes.kind.Kind.{Kind}
use Rattle.odb_base.specs.declared.codes.kind.Kind.TheVariants as kind
use Rattle.named_pool.proofs.Finding.{found_by, free_names_are_not_found as not_found_in, named_by}
use Rattle.block_store.specs.Block.{Block}
use Rattle.block_store.specs.NameLaws.{FoundHaveTheName, FreeNamesAreNotFound, NamedAreFound}

-- nothing is found by a name exactly where no object of the kind has it
pub free_names_are_not_found : (k : Kind) (b : Block) → FreeNamesAreNotFound k b
free_names_are_not_found kind.Inst b = not_found_in (λ e. e.fields.name) b.inst
free_names_are_not_found kind.ITerm b = λ name. (λ _ id h. cc, λ _. refl)
free_names_are_not_found kind.Net b = not_found_in (λ e. e.fields.name) b.net
free_names_are_not_found kind.BTerm b = not_found_in (λ e. e.fields.name) b.bterm
free_names_are_not_found kind.Pin b = λ name. (λ _ id h. cc, λ _. refl)
free_names_are_not_found kind.Row b = not_found_in (λ e. e.fields.name) b.row
free_names_are_not_found kind.Track b = λ name. (λ _ id h. cc, λ _. refl)
free_names_are_not_found kind.Wire b = λ name. (λ _ id h. cc, λ _. refl)
free_names_are_not_found kind.Blockage b = λ name. (λ _ id h. cc, λ _. refl)
free_names_are_not_found kind.Region b = not_found_in (λ e. e.fields.name) b.region
free_names_are_not_found kind.Group b = not_found_in (λ e. e.fields.name) b.group
free_names_are_not_found kind.Prop b = λ name. (λ _ id h. cc, λ _. refl)

-- what is found has the name that it was found by
pub found_have_the_name : (k : Kind) (b : Block) → FoundHaveTheName k b
found_have_the_name kind.Inst b = λ name. found_by (λ e. e.fields.name) name b.inst
found_have_the_name kind.ITerm b = λ name id h. cc
found_have_the_name kind.Net b = λ name. found_by (λ e. e.fields.name) name b.net
found_have_the_name kind.BTerm b = λ name. found_by (λ e. e.fields.name) name b.bterm
found_have_the_name kind.Pin b = λ name id h. cc
found_have_the_name kind.Row b = λ name. found_by (λ e. e.fields.name) name b.row
found_have_the_name kind.Track b = λ name id h. cc
found_have_the_name kind.Wire b = λ name id h. cc
found_have_the_name kind.Blockage b = λ name id h. cc
found_have_the_name kind.Region b = λ name. found_by (λ e. e.fields.name) name b.region
found_have_the_name kind.Group b = λ name. found_by (λ e. e.fields.name) name b.group
found_have_the_name kind.Prop b = λ name id h. cc

-- each object is found by its name, where names are distinct
pub named_are_found : (k : Kind) (b : Block) → NamedAreFound k b
named_are_found kind.Inst b = λ distinct name. named_by (λ e. e.fields.name) name b.inst (distinct name)
named_are_found kind.ITerm b = λ distinct name id h. cc
named_are_found kind.Net b = λ distinct name. named_by (λ e. e.fields.name) name b.net (distinct name)
named_are_found kind.BTerm b = λ distinct name. named_by (λ e. e.fields.name) name b.bterm (distinct name)
named_are_found kind.Pin b = λ distinct name id h. cc
named_are_found kind.Row b = λ distinct name. named_by (λ e. e.fields.name) name b.row (distinct name)
named_are_found kind.Track b = λ distinct name id h. cc
named_are_found kind.Wire b = λ distinct name id h. cc
named_are_found kind.Blockage b = λ distinct name id h. cc
named_are_found kind.Region b = λ distinct name. named_by (λ e. e.fields.name) name b.region (distinct name)
named_are_found kind.Group b = λ distinct name. named_by (λ e. e.fields.name) name b.group (distinct name)
named_are_found kind.Prop b = λ distinct name id h. cc
