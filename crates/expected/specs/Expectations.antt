-- The text that lists the expected kinds of tokens.
use Rattle.std.specs.Prelude.{ℕ, ◌-◌, List, [], ◌∷◌, ◌++◌, length, take, nat_lt, codes, if◌then◌else◌}
use Rattle.std.specs.Fmt.{decimal}
use Rattle.source.specs.declared.kind.Kind.{Kind}
use Rattle.expected.specs.declared.groups.TheConstants.{GROUPS}
use Rattle.expected.specs.declared.wording.TheConstants.{MAX_ITEMS}
use Rattle.expected.specs.Grouping.{items_of}

-- what follows the first of some items: a comma before each, but something else before the last
abbrev pub rest_of_items : List ℕ → List (List ℕ) → List ℕ
rest_of_items last [] = []
rest_of_items last (a ∷ []) = last ++ a
rest_of_items last (a ∷ b ∷ cs) = codes ", " ++ (a ++ rest_of_items last (b ∷ cs))

-- items one after another
abbrev pub item_list : List ℕ → List (List ℕ) → List ℕ
item_list last [] = codes "nothing"
item_list last (a ∷ bs) = a ++ rest_of_items last bs

-- "a, b or c", or if there are too many "a, b, c, or 4 more"
abbrev pub listed_items : List (List ℕ) → List ℕ
listed_items items =
    if nat_lt MAX_ITEMS (length items)
    then item_list (codes ", ") (take MAX_ITEMS items) ++ (codes ", or " ++ (decimal (length items - MAX_ITEMS) ++ codes " more"))
    else item_list (codes " or ") items

-- the whole text
abbrev pub expectation_of : List Kind → List ℕ
expectation_of kinds = codes "expected " ++ listed_items (items_of GROUPS kinds)
