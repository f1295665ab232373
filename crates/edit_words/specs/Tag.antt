-- What is read off a step alone: its tag, and the object that it makes.
use Rattle.std.specs.Prelude.{false, List, [], ℕ, Option, None, Some}
use Rattle.odb_base.specs.declared.codes.direction.Direction.TheVariants as direction
use Rattle.odb_base.specs.declared.codes.kind.Kind.{Kind}
use Rattle.odb_base.specs.declared.codes.kind.Kind.TheVariants as kind
use Rattle.odb_base.specs.declared.codes.usage.Usage.TheVariants as usage
use Rattle.block_records.specs.declared.bterm.BTermRec.{BTermRec}
use Rattle.block_records.specs.declared.net.NetRec.{NetRec}
use Rattle.block_records.specs.declared.record.Record.{Record}
use Rattle.block_records.specs.declared.record.Record.TheVariants as rec
use Rattle.edit_words.specs.declared.step.Step.{Step}
use Rattle.edit_words.specs.declared.step.Step.TheVariants as step
use Rattle.edit_words.specs.declared.tag.Tag.{Tag}
use Rattle.edit_words.specs.declared.tag.Tag.TheVariants as tag

-- the step without what moves into the block
abbrev pub tag_of : Step → Tag
tag_of (step.NewInst id name master terminals) = tag.NewInst id master
tag_of (step.NewNet id name) = tag.NewNet id
tag_of (step.NewBTerm id name) = tag.NewBTerm id
tag_of (step.NewRow id row) = tag.NewRow id
tag_of (step.Del kind id) = tag.Del kind id
tag_of (step.Rename kind id name) = tag.Rename kind id
tag_of (step.Swap inst master) = tag.Swap inst
tag_of (step.Place kind id place) = tag.Place kind id
tag_of (step.SetUse kind id usage) = tag.SetUse kind id
tag_of (step.SetDir bterm direction) = tag.SetDir bterm
tag_of (step.MakeSpecial net) = tag.MakeSpecial net
tag_of (step.Join kind id net) = tag.Join kind id net
tag_of (step.Part kind id net) = tag.Part kind id net

-- the kind and the identifier of the object that a step makes, if it makes one
abbrev pub new_at : Tag → Option (Kind × ℕ)
new_at (tag.NewInst id master) = Some (kind.Inst, id)
new_at (tag.NewNet id) = Some (kind.Net, id)
new_at (tag.NewBTerm id) = Some (kind.BTerm, id)
new_at (tag.NewRow id) = Some (kind.Row, id)
new_at other = None

-- a new net has no use and isn't special
abbrev pub fresh_net : List ℕ → NetRec
fresh_net name = record { name = name; usage = usage.None; special = false; kept = []; special_kept = [] }

-- a new block terminal is joined to nothing and has no direction and no use
abbrev pub fresh_bterm : List ℕ → BTermRec
fresh_bterm name = record { name = name; net = 0; direction = direction.None; usage = usage.None; kept = [] }

-- a new object, under its identifier
pub record NewObject : Type 0 where
  pub id : ℕ
  pub object : Record

-- the object that a step makes and nothing beside it, if it makes one; an instance comes with its terminals
abbrev pub new_object : Step → Option NewObject
new_object (step.NewNet id name) = Some (record { id = id; object = rec.Net (fresh_net name) })
new_object (step.NewBTerm id name) = Some (record { id = id; object = rec.BTerm (fresh_bterm name) })
new_object (step.NewRow id row) = Some (record { id = id; object = rec.Row row })
new_object other = None
