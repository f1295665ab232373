-- What a terminal of an instance states of itself.
use Rattle.std.specs.Prelude.{true, ℕ, Option, None, Some}
use Rattle.block_records.specs.declared.iterm.ITermRec.{ITermRec}
use Rattle.block_store.specs.KindLaws.{KindLaws}

-- the net that a terminal of an instance is joined to, 0 for none, and its instance with its place there
pub record ITermLinks : Type 0 where
  pub net : ℕ
  pub place : Option (ℕ × ℕ)

abbrev pub iterm_laws : KindLaws ITermRec
iterm_laws = record {
  built = true;
  Links = ITermLinks;
  see = λ r. record { net = r.net; place = Some (r.inst, r.index) };
  none = record { net = 0; place = None };
  name = None;
  Is = λ parts r. Unit {0};
}
