-- `sheet::listing::print` meets its contract. The marks are those of the four rights, so that the lines are the sheet's; zeros stand after them.
-- Assumes nothing.
use mathlib.Core.Path.{◌≡◌, refl, sym}
use native.Mathlib.Omega.{arith}
use Prim.Native.Nat.{ℕ, ◌≤◌}
use mathlib.Core.List.{List}
use lib.ListN.{length, take}
use lib.Seq.{length-take-le}
use Rattle.language.specs.Syntax.{Name, read, write, append, delegate}
use Rattle.language.specs.State.{Store}
use Rattle.store.proofs.Holders.{some_principals}
use Rattle.value_text.proofs.Pieces.{written_length}
use Rattle.sheet_page.specs.Marks.{Marked}
use Rattle.sheet.specs.Listing.{SheetTables}
use Rattle.sheet.proofs.Printing.{asks_all, printed}
use Rattle.sheet.proofs.listing.print.Goals as goal

-- the marks that are lent are as many as the principals
front : (count : ℕ) (marks : List ℕ) → count ≤ 1024 → length marks ≡ 1024 → length (take count marks) ≡ count
front count marks h e = length-take-le count marks (omega arith)

all-marks : (count : ℕ) (marks : List ℕ) → count ≤ 1024 → length marks ≡ 1024 → count ≤ length (take count marks)
all-marks count marks h e = omega (arith, front count marks h e)

pub slice_bounds-put_sheet-end : goal.slice_bounds-put_sheet-end
slice_bounds-put_sheet-end c = sym (front _ _ c.requires.numbers.few c.mark.auto.marks)

pub slice_bounds-put_sheet-end-2 : goal.slice_bounds-put_sheet-end-2
slice_bounds-put_sheet-end-2 c = sym (front _ _ c.requires.numbers.few c.mark-2.auto.marks)

pub slice_bounds-put_sheet-end-3 : goal.slice_bounds-put_sheet-end-3
slice_bounds-put_sheet-end-3 c = sym (front _ _ c.requires.numbers.few c.mark-3.auto.marks)

pub slice_bounds-put_sheet-end-4 : goal.slice_bounds-put_sheet-end-4
slice_bounds-put_sheet-end-4 c = sym (front _ _ c.requires.numbers.few c.mark-4.auto.marks)

pub put_sheet-bytes-requires : goal.put_sheet-bytes-requires
put_sheet-bytes-requires c =
    let P = c.requires in
    let f = P.numbers.few in
    record {
      some_rows = some_principals P.state.principals _ _ _ P.tables.principals;
      reads_long = all-marks _ _ f c.mark.auto.marks;
      writes_long = all-marks _ _ f c.mark-2.auto.marks;
      appends_long = all-marks _ _ f c.mark-3.auto.marks;
      delegates_long = all-marks _ _ f c.mark-4.auto.marks;
      fits = omega (arith, f, P.size);
    }

pub zero_rest-requires : goal.zero_rest-requires
zero_rest-requires c =
    let Lent : Store → Name → Type 0 = λ s x. let a = c.args in SheetTables s x a.names.now a.slots.now a.count a.n a.number a.assertions.now in
    let everyone : List ℕ → List ℕ = λ l. take c.args.count l in
    let marked : (s : Store) (x : Name) → Lent s x → Marked s x (everyone c.mark.new.marks) (everyone c.mark-2.new.marks) (everyone c.mark-3.new.marks) (everyone c.mark-4.new.marks) = λ s x h. record {
      reads_are = c.mark.ensures s read x h.is_valid h.standing (asks_all h read _ refl);
      writes_are = c.mark-2.ensures s write x h.is_valid h.standing (asks_all h write _ refl);
      appends_are = c.mark-3.ensures s append x h.is_valid h.standing (asks_all h append _ refl);
      delegates_are = c.mark-4.ensures s delegate x h.is_valid h.standing (asks_all h delegate _ refl);
    } in
    let P = c.requires in
    let w = c.put_sheet-bytes.ensures P.state P.name P.tables.principals (marked P.state P.name P.tables) in
    omega (arith, w.fits, written_length w)

pub returns : goal.returns
returns c s x h =
    let Lent : Store → Name → Type 0 = λ s x. let a = c.args in SheetTables s x a.names.now a.slots.now a.count a.n a.number a.assertions.now in
    let everyone : List ℕ → List ℕ = λ l. take c.args.count l in
    let marked : (s : Store) (x : Name) → Lent s x → Marked s x (everyone c.mark.new.marks) (everyone c.mark-2.new.marks) (everyone c.mark-3.new.marks) (everyone c.mark-4.new.marks) = λ s x h. record {
      reads_are = c.mark.ensures s read x h.is_valid h.standing (asks_all h read _ refl);
      writes_are = c.mark-2.ensures s write x h.is_valid h.standing (asks_all h write _ refl);
      appends_are = c.mark-3.ensures s append x h.is_valid h.standing (asks_all h append _ refl);
      delegates_are = c.mark-4.ensures s delegate x h.is_valid h.standing (asks_all h delegate _ refl);
    } in
    let w = c.put_sheet-bytes.ensures s x h.principals (marked s x h) in
    printed c.requires.size w c.zero_rest.ensures
