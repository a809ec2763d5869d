-- The large text: a list after Michael's, with an insert, a delete, and finds that differ in their names alone.
use Rattle.std.specs.Prelude.{ℕ, zero, suc, ◌+◌, ◌-◌, ◌==◌, if◌then◌else◌, List, [], ◌∷◌, ◌++◌, codes}
use Rattle.std.specs.List.{flat_map}
use Rattle.std.specs.Fmt.{decimal}
use Rattle.plank_report.specs.Pieces.{line}

abbrev lines : List (List ℕ) → List ℕ
lines = flat_map line

unfoldable pub header_text : List ℕ
header_text = lines (
    codes "structure michael;" ∷
    codes "flag marked;" ∷
    codes "ptr next asc;" ∷
    codes "root head;" ∷
    codes "start head { key = MIN; next = tail; }" ∷
    codes "start tail { key = MAX; }" ∷
    codes "edge next : x.key < j;" ∷
    codes "holds x.key == j && !x.marked;" ∷
    codes "keep linked : x.key == MAX || x.next != null;" ∷
    codes "keep ends : !x.marked || MIN < x.key && x.key < MAX;" ∷
    codes "keep inset : x.marked || j < x.key || j in x;" ∷
    [])

unfoldable pub insert_text : List ℕ
insert_text = lines (
    codes "method insert(k) {" ∷
    codes "  var p, c, s, n;" ∷
    codes "  n = new; p = root; c = p.next;" ∷
    codes "  loop {" ∷
    codes "    if (c.marked) {" ∷
    codes "      s = c.next;" ∷
    codes "      atomic { test p.next == c; test !p.marked; write p.next = s; }" ∷
    codes "      else { p = root; s = p.next; }" ∷
    codes "      c = s;" ∷
    codes "    } else { if (c.key < k) { p = c; c = p.next; }" ∷
    codes "    else { if (c.key == k) { return false; }" ∷
    codes "    else {" ∷
    codes "      atomic { write n.next = c; }" ∷
    codes "      atomic { test p.next == c; test !p.marked; write p.next = n; }" ∷
    codes "      else { p = root; c = p.next; continue; }" ∷
    codes "      return true;" ∷
    codes "    } } }" ∷
    codes "  }" ∷
    codes "}" ∷
    [])

unfoldable pub delete_text : List ℕ
delete_text = lines (
    codes "method delete(k) {" ∷
    codes "  var p, c, s;" ∷
    codes "  p = root; c = p.next;" ∷
    codes "  loop {" ∷
    codes "    if (c.marked) {" ∷
    codes "      s = c.next;" ∷
    codes "      atomic { test p.next == c; test !p.marked; write p.next = s; }" ∷
    codes "      else { p = root; s = p.next; }" ∷
    codes "      c = s;" ∷
    codes "    } else { if (c.key < k) { p = c; c = p.next; }" ∷
    codes "    else { if (c.key == k) {" ∷
    codes "      atomic { test !c.marked; write c.marked = true; } else { continue; }" ∷
    codes "      s = c.next;" ∷
    codes "      atomic { test p.next == c; test !p.marked; write p.next = s; }" ∷
    codes "      return true;" ∷
    codes "    } else { return false; } } }" ∷
    codes "  }" ∷
    codes "}" ∷
    [])

-- the steps of a find, and the end of its method
unfoldable pub find_steps : List ℕ
find_steps = lines (
    codes "  var p, c;" ∷
    codes "  p = root; c = p.next;" ∷
    codes "  while (c.key < k) { p = c; c = p.next; }" ∷
    codes "  if (c.key == k) { if (c.marked) { return false; } else { return true; } }" ∷
    codes "  else { return false; }" ∷
    codes "}" ∷
    [])

-- the first find is named after its kind, the others are numbered
abbrev pub find_name : ℕ → List ℕ
find_name i = if i == 1 then codes "contains" else codes "find" ++ decimal i ++ codes " as contains"

abbrev pub find_text : ℕ → List ℕ
find_text i = codes "method " ++ find_name i ++ line (codes "(k) {") ++ find_steps

-- the finds 1 to n
abbrev pub finds_text : ℕ → List ℕ
finds_text zero = []
finds_text (suc n) = finds_text n ++ find_text (suc n)

-- the text of so many methods
abbrev pub large_text : ℕ → List ℕ
large_text methods = header_text ++ insert_text ++ delete_text ++ finds_text (methods - 2)
