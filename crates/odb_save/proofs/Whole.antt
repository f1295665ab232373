-- A whole saved database is read back, and has no second spelling; the place of a fault is within the bytes.
use Rattle.std.proofs.Common.{◌≡◌, ◌≤◌, true, ℕ, List, [], ◌++◌, ◌+◌, length, Result, Ok, Err, codes, refl, sym, ap, subst, ◌∙◌, append_assoc, append-nil, arith, inl, inr, eqb}
use Rattle.std.specs.Str.{bytes_eq}
use Rattle.std.proofs.lemmas.Bool.{cases_Bool, eq-eqb, eqb-true}
use Rattle.std.proofs.lemmas.List.{drop_all}
use Rattle.std.proofs.lemmas.Slice.Eq.{bytes_eq-Decides}
use Rattle.odb_fields.specs.declared.get.Cut.{Cut}
use Rattle.odb_fields.specs.Bytes.{AreBytes}
use Rattle.odb_fields.specs.Fields.{u32_bytes}
use Rattle.odb_fields.specs.Reading.{Cursor, bytes_at, u32_at, unread, ◌>>=◌}
use Rattle.odb_fields.proofs.Inputs.{bind_ok, bytes_back, bytes_only, ok_is}
use Rattle.block_store.specs.Block.{Block}
use Rattle.saved_reader.specs.declared.saved.Saved.{Saved}
use Rattle.saved_fields.specs.Bytes.{table_bytes}
use Rattle.saved_fields.specs.Fault as fault
use Rattle.saved_fields.specs.Fault.{Fault, fault_place}
use Rattle.saved_reader.specs.Grouping.{group_format, prop_format, region_format}
use Rattle.saved_reader.specs.Header.{header_format}
use Rattle.saved_reader.specs.Library.{library_format}
use Rattle.saved_reader.specs.Objects.{bterm_format, inst_format, iterm_format, net_format}
use Rattle.saved_reader.specs.Physical.{blockage_format, pin_format, row_format, track_format, wire_format}
use Rattle.saved_fields.specs.Reading.{plain}
use Rattle.saved_reader.specs.Saved.{block_format, built_format, known_version, mark_at, marked, others_format, saved_at, saved_in, saved_of, version_at, whole}
use Rattle.saved_reader.specs.Technology.{tech_format}
use Rattle.saved_fields.proofs.FaultPlaces.{CutIn, EndsIn, IsIn, bind_in, bytes_stay}
use Rattle.saved_fields.proofs.Codec.{IsCodec, and_codec, record_codec, same_codec}
use Rattle.saved_reader.proofs.Records.{block_is, library_is, tech_is}
use Rattle.saved_reader.proofs.Within.{whole_ok}
use Rattle.saved_fields.proofs.Single.{u32_codec}
use Rattle.odb_save.specs.Kinds.{table_in}
use Rattle.odb_save.specs.Save.{block_bytes}

-- ---- the block

regroup : (h a b c d e f g i j k l m : List ℕ)
    → (h ++ (((a ++ b) ++ c) ++ d)) ++ (((((((e ++ f) ++ g) ++ i) ++ j) ++ k) ++ l) ++ m) ≡ h ++ (a ++ (b ++ (c ++ (d ++ (e ++ (f ++ (g ++ (i ++ (j ++ (k ++ (l ++ (m ++ []))))))))))))
regroup h a b c d e f g i j k l m = simp (append_assoc, append-nil)

-- the bytes of a block are those of its header, and then those of each table
block_is_written : (cap : ℕ) (b : Block) → (block_format cap).bytes b ≡ block_bytes b
unfolding block_format built_format others_format block_bytes table_in
block_is_written cap b =
    regroup (header_format.bytes b.header) (table_bytes inst_format.bytes b.inst) (table_bytes iterm_format.bytes b.iterm) (table_bytes net_format.bytes b.net)
    (table_bytes bterm_format.bytes b.bterm) (table_bytes pin_format.bytes b.pin) (table_bytes row_format.bytes b.row) (table_bytes track_format.bytes b.track)
    (table_bytes wire_format.bytes b.wire) (table_bytes blockage_format.bytes b.blockage) (table_bytes region_format.bytes b.region)
    (table_bytes group_format.bytes b.group) (table_bytes prop_format.bytes b.prop)

block_codec : (cap : ℕ) → IsCodec (block_format cap).at block_bytes (block_format cap).Has
block_codec cap = same_codec (block_format cap).at (block_format cap).bytes block_bytes (block_format cap).Has (λ b fits. block_is_written cap b) (block_is cap).codec

-- ---- the mark and the version

marked_ok : (r : Result (List ℕ × Cursor) Cut) (x : Unit {0}) (new : Cursor) → marked r ≡ Ok (x, new) → r ≡ Ok (codes "ODBS", new)
marked_ok (Ok p) x new e = elim (cases_Bool (bytes_eq p.0 (codes "ODBS"))) [
  | inl t ↦
      let after : p.1 ≡ new = (let h = rw t at e in ap (λ (q : Unit {0} × Cursor). q.1) (ok_is (tt, p.1) (x, new) h)) in
      let mark : p.0 ≡ codes "ODBS" = (bytes_eq-Decides p.0 (codes "ODBS")).0 t in
      ap (λ (bytes : List ℕ). Ok (bytes, p.1)) mark ∙ ap (λ (c : Cursor). Ok (codes "ODBS", c)) after
  | inr f ↦ absurd (let h = rw f at e in cc)
]
marked_ok (Err cut) x new e = absurd cc

marked_stays : (n : ℕ) (r : Result (List ℕ × Cursor) Cut) → CutIn n r → EndsIn n (marked r)
marked_stays n (Ok p) is = elim (cases_Bool (bytes_eq p.0 (codes "ODBS"))) [
  | inl t ↦ rw t is
  | inr f ↦ rw f (omega arith)
]
marked_stays n (Err cut) is = omega arith

mark_codec : IsCodec mark_at (λ u. codes "ODBS") (λ u. Unit {0})
unfolding mark_at
mark_codec = record {
  back = λ u fits input rest e. let a = bytes_back (codes "ODBS") input rest e in (ap marked a.0, a.1);
  only = λ old new x are e fits. (bytes_only 4 old new (codes "ODBS") (marked_ok (bytes_at 4 old) x new e)).0;
  stays = λ n old is. marked_stays n (bytes_at 4 old) (bytes_stay 4 n old is);
}

known_ok : (p : ℕ × Cursor) (x : Unit {0}) (new : Cursor) → known_version p ≡ Ok (x, new) → p ≡ (1, new)
known_ok p x new e = elim (cases_Bool (eqb p.0 1)) [
  | inl t ↦
      let after : p.1 ≡ new = (let h = rw t at e in ap (λ (q : Unit {0} × Cursor). q.1) (ok_is (tt, p.1) (x, new) h)) in
      ap (λ (n : ℕ). (n, p.1)) (eqb-true p.0 1 t) ∙ ap (λ (c : Cursor). (1, c)) after
  | inr f ↦ absurd (let h = rw f at e in cc)
]

known_stays : (n : ℕ) (p : ℕ × Cursor) → IsIn n p.1 → EndsIn n (known_version p)
known_stays n p is = elim (cases_Bool (eqb p.0 1)) [
  | inl t ↦ rw t is
  | inr f ↦ rw f (omega arith)
]

version_codec : IsCodec version_at (λ u. u32_bytes 1) (λ u. Unit {0})
unfolding version_at
version_codec = record {
  back = λ u fits input rest e. let a = u32_codec.back 1 (omega arith) input rest e in (ap (λ (r : Result (ℕ × Cursor) Fault). r >>= known_version) a.0, a.1);
  only = λ old new x are e fits.
      let u = bind_ok (plain u32_at old) known_version (x, new) e in
      u32_codec.only old new 1 are (u.1 ∙ ap (λ (p : ℕ × Cursor). Ok p) (known_ok u.0 x new u.2)) (omega arith);
  stays = λ n old is. bind_in n (plain u32_at old) known_version (u32_codec.stays n old is) (known_stays n);
}

-- ---- all of it

-- each field of what was read is lawful
abbrev pub IsSavedFields : ℕ → Saved → Type 0
IsSavedFields cap s = (((Unit {0} × Unit {0}) × tech_format.Has s.tech) × library_format.Has s.library) × (block_format cap).Has s.tables

abbrev saved_bytes : Saved → List ℕ
saved_bytes s = codes "ODBS" ++ (((u32_bytes 1 ++ tech_format.bytes s.tech) ++ library_format.bytes s.library) ++ block_bytes s.tables)

four_regroup : (a b c d e : List ℕ) → (((a ++ b) ++ c) ++ d) ++ e ≡ a ++ (((b ++ c) ++ d) ++ e)
four_regroup a b c d e = simp append_assoc

saved_codec : (cap : ℕ) → IsCodec (saved_at cap) saved_bytes (IsSavedFields cap)
unfolding saved_at
saved_codec cap =
    let known = and_codec _ _ _ _ _ _ mark_codec version_codec in
    let technical = and_codec _ _ _ _ _ _ known tech_is.codec in
    let stocked = and_codec _ _ _ _ _ _ technical library_is.codec in
    let all = and_codec _ _ _ _ _ _ stocked (block_codec cap) in
    same_codec (saved_at cap) _ saved_bytes (IsSavedFields cap)
    (λ s fits. four_regroup (codes "ODBS") (u32_bytes 1) (tech_format.bytes s.tech) (library_format.bytes s.library) (block_bytes s.tables))
    (record_codec saved_of (λ s. ((((tt, tt), s.tech), s.library), s.tables)) _ _ _ (λ s. refl) (λ t. refl) all)

abbrev start : List ℕ → Cursor
start bytes = record { bytes = bytes; place = 0 }

-- what fits is read back from its bytes, all of them
pub bytes_are_read : (cap : ℕ) (s : Saved) → IsSavedFields cap s → saved_in cap (saved_bytes s) ≡ Ok s
unfolding saved_in
bytes_are_read cap s fits =
    let bytes = saved_bytes s in
    let a = (saved_codec cap).back s fits (start bytes) [] (sym (append-nil bytes)) in
    let ended : eqb (0 + length bytes) (length bytes) ≡ true = eq-eqb (0 + length bytes) (length bytes) (omega arith) in
    ap (λ (r : Result (Saved × Cursor) Fault). r >>= whole (length bytes)) a.0 ∙ rw ended refl

-- what was read, where it fits, has just these bytes
pub read_has_bytes : (cap : ℕ) (bytes : List ℕ) (s : Saved) → AreBytes bytes → saved_in cap bytes ≡ Ok s → IsSavedFields cap s → bytes ≡ saved_bytes s
unfolding saved_in
read_has_bytes cap bytes s are e fits =
    let u = bind_ok (saved_at cap (start bytes)) (whole (length bytes)) s e in
    let w = whole_ok (length bytes) u.0 s u.2 in
    let Q : Saved → Type 0 = λ x. saved_at cap (start bytes) ≡ Ok (x, u.0.1) in
    let taken = (saved_codec cap).only (start bytes) u.0.1 s are (subst Q w.0 u.1) fits in
    let kept : u.0.1.bytes ≡ bytes = ap (λ (c : Cursor). c.bytes) taken.moved in
    let ended : unread u.0.1 ≡ [] = drop_all u.0.1.place u.0.1.bytes (omega (arith, w.1, ap length kept)) in
    taken.parts ∙ ap (λ l. saved_bytes s ++ l) ended ∙ append-nil (saved_bytes s)

whole_stays : (n : ℕ) (read : Result (Saved × Cursor) Fault) (f : Fault) → EndsIn n read → (read >>= whole n) ≡ Err f → fault_place f ≤ n
whole_stays n (Ok p) f is e = elim (cases_Bool (eqb p.1.place n)) [
  | inl t ↦ absurd (let h = rw t at e in cc)
  | inr behind ↦
      let trailing : fault.Trailing p.1.place ≡ f = (let h = rw behind at e in cc) in
      let place : p.1.place ≡ fault_place f = ap fault_place trailing in
      omega (arith, place, is.1)
]
whole_stays n (Err g) f is e =
    let place : fault_place g ≡ fault_place f = (let same : g ≡ f = cc in ap fault_place same) in
    omega (arith, place, is)

-- the place of a fault is within the bytes
pub fault_within : (cap : ℕ) (bytes : List ℕ) (f : Fault) → saved_in cap bytes ≡ Err f → fault_place f ≤ length bytes
unfolding saved_in
fault_within cap bytes f e =
    whole_stays (length bytes) (saved_at cap (start bytes)) f ((saved_codec cap).stays (length bytes) (start bytes) (refl, omega arith)) e
