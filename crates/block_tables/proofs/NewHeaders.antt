-- The header of a new block, by its fields.
use Rattle.std.proofs.Common.{◌≡◌, List, [], ℕ, Option, None, codes}
use Rattle.odb_base.specs.declared.geometry.Rect.{Rect}
use Rattle.block_records.specs.Header.{new_header}
use Rattle.block_records.specs.declared.header.BlockVia.{BlockVia}
use Rattle.block_records.specs.declared.header.Header.{Header}
use Rattle.block_records.specs.declared.header.PropDef.{PropDef}

header_of : List ℕ → List ℕ → List ℕ → Option Rect → List PropDef → List BlockVia → Header
header_of a b c d e f = record { design = a; divider = b; bus = c; die = d; definitions = e; vias = f }

fields : (a b c : List ℕ) (d : Option Rect) (e : List PropDef) (f : List BlockVia) → a ≡ [] → b ≡ codes "/" → c ≡ codes "[]" → d ≡ None → e ≡ [] → f ≡ [] → header_of a b c d e f ≡ header_of [] (codes "/") (codes "[]") None [] []
fields a b c d e f p q r s t u = cc

pub is_new : (h : Header) → h.design ≡ [] → h.divider ≡ codes "/" → h.bus ≡ codes "[]" → h.die ≡ None → h.definitions ≡ [] → h.vias ≡ [] → h ≡ new_header
unfolding header_of
is_new h design divider bus die definitions vias = fields h.design h.divider h.bus h.die h.definitions h.vias design divider bus die definitions vias
