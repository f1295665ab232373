-- The same as tests.
use Rattle.std.specs.Prelude.{◌==◌, ◌&&◌, ◌^◌, Bool, true, false, List, [], ◌∷◌, ℕ, ℤ, pos, negsuc, is_none, length, nat_le, nat_lt, not}
use Rattle.std.specs.List.{list_all, list_any}
use Rattle.std.specs.Str.{bytes_eq}
use Rattle.odb_base.specs.Geometry.{is_coordinate}
use Rattle.odb_base.specs.Name.{name_fault}
use Rattle.odb_base.specs.declared.geometry.Rect.{Rect}
use Rattle.odb_base.specs.declared.geometry.Shape.{Shape}
use Rattle.tech.specs.Technology.{Technology}
use Rattle.tech.specs.declared.layer.Layer.{Layer}
use Rattle.tech.specs.declared.site.Site.{Site}
use Rattle.tech.specs.declared.via.TechVia.{TechVia}
use Rattle.library.specs.declared.master.Master.{Master}
use Rattle.library.specs.declared.mterm.MTerm.{MTerm}
use Rattle.lawful_parts.specs.Lawful.{orient_of}

-- the name is lawful
abbrev pub is_name : List ℕ → Bool
is_name name = is_none (name_fault name)

-- the first number is at most the second
abbrev pub int_le : ℤ → ℤ → Bool
int_le (pos a) (pos b) = nat_le a b
int_le (pos a) (negsuc b) = false
int_le (negsuc a) (pos b) = true
int_le (negsuc a) (negsuc b) = nat_le b a

-- the corners are within the limit
abbrev pub has_lawful_corners : Rect → Bool
has_lawful_corners r = is_coordinate r.xl && is_coordinate r.yl && is_coordinate r.xh && is_coordinate r.yh

-- the first corner is the lower left one
abbrev pub is_in_order : Rect → Bool
is_in_order r = int_le r.xl r.xh && int_le r.yl r.yh

abbrev pub is_rect : Rect → Bool
is_rect r = has_lawful_corners r && is_in_order r

abbrev pub is_id_among : ℕ → ℕ → Bool
is_id_among count id = nat_le 1 id && nat_le id count

abbrev pub is_shape : Technology → Shape → Bool
is_shape t s = is_id_among (length t.layers) s.layer.0 && is_rect s.rect

unfoldable pub are_shapes : Technology → List Shape → Bool
are_shapes t shapes = nat_le (length shapes) 1000000 && list_all (is_shape t) shapes

unfoldable pub is_layer : Layer → Bool
is_layer l = is_name l.name && is_coordinate l.pitch_x && is_coordinate l.pitch_y && is_coordinate l.width && is_coordinate l.spacing

unfoldable pub is_tech_via : Technology → TechVia → Bool
is_tech_via t v = is_name v.name && is_none (orient_of v.name) && are_shapes t v.shapes

unfoldable pub is_site : Site → Bool
is_site s = is_name s.name && nat_lt s.symmetry.0 8 && is_coordinate s.width && is_coordinate s.height

abbrev pub is_mterm : Technology → MTerm → Bool
is_mterm t m = is_name m.name && are_shapes t m.shapes

-- no later terminal has the name of an earlier one
abbrev pub are_distinct : List MTerm → Bool
are_distinct [] = true
are_distinct (t ∷ ts) = not (list_any (λ other. bytes_eq t.name other.name) ts) && are_distinct ts

abbrev pub has_lawful_sizes : Master → Bool
has_lawful_sizes m = is_coordinate m.origin_x && is_coordinate m.origin_y && is_coordinate m.width && is_coordinate m.height

abbrev pub has_lawful_texts : Master → Bool
has_lawful_texts m = is_name m.name && nat_lt (length m.class) (2 ^ 32) && nat_lt (length m.foreign) (2 ^ 32)

abbrev pub has_lawful_terminals : Technology → Master → Bool
has_lawful_terminals t m = nat_le (length m.terminals) 65535 && list_all (is_mterm t) m.terminals && are_distinct m.terminals

abbrev pub has_lawful_rest : Technology → Master → Bool
has_lawful_rest t m = nat_lt m.symmetry 8 && nat_le m.site (length t.sites) && are_shapes t m.obstructions

unfoldable pub is_master : Technology → Master → Bool
is_master t m = has_lawful_texts m && has_lawful_sizes m && has_lawful_terminals t m && has_lawful_rest t m
