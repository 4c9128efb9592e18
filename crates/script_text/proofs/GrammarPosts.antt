-- The post lines of the grammar are those that the forms give, and no value is a line of two forms.
use Rattle.std.proofs.Common.{◌≡◌, inl, inr, ℕ, ◌&&◌, List, [], ◌∷◌, Bool, true, false, cond, Option, Some, None, option_map, option_and_then, ℤ, refl, ap, sym, subst, ◌∙◌, arith, nat_le}
use Rattle.std.specs.Prelude.{codes, map}
use Rattle.std.proofs.lemmas.Bool.{and_parts, leb-true, cond-true, cond-false, and_from, leb-false, lt-leb, le-leb}
use Rattle.serde_json.specs.Data.{Data}
use Rattle.serde_json.specs.Find.{get}
use Rattle.nav_types.specs.declared.cells.Size.{Size}
use Rattle.class_config.specs.Forms.{has_keys}
use Rattle.obstruction_shapes.specs.declared.shapes.Obstruction.{Obstruction}
use Rattle.obstruction_shapes.specs.declared.shapes.Shape.{Shape}
use Rattle.obstruction_shapes.specs.declared.shapes.Shape.TheVariants.{Unit as UnitShape, Square as SquareShape}
use Rattle.goal_shapes.specs.declared.goals.GoalSpec.{GoalSpec}
use Rattle.posts.specs.declared.posts.Post.{Post}
use Rattle.posts.specs.declared.edits.Edit.{Edit}
use Rattle.posts.specs.declared.edits.Edit.TheVariants.{Add, Remove, Move}
use Rattle.posts.specs.declared.posts.Post.TheVariants.{Edit as Edits, Ask as Asks}
use Rattle.posts.specs.declared.posts.Request.{Request}
use Rattle.posts.specs.declared.posts.PathRequest.{PathRequest}
use Rattle.posts.specs.declared.posts.RegionQuery.{RegionQuery}
use Rattle.posts.specs.declared.posts.Request.TheVariants.{Path, Region}
use Rattle.script_text.specs.declared.forms.CallerPost.{CallerPost}
use Rattle.script_text.specs.Values.{whole_in, whole_below, obstruction_number, class_name, under, both, all_three, point_of, round_of, rectangle_of}
use Rattle.script_text.specs.declared.causes.keys.Key.TheVariants.{Mask}
use Rattle.script_text.specs.declared.table.Form.{Form}
use Rattle.script_text.specs.declared.table.Form.TheVariants as form
use Rattle.script_text.specs.Table.{key_text, has_form, form_of}
use Rattle.script_text.specs.Forms.{map_of, base_of, mask_of, unit_of, square_of, add_of, remove_of, move_of, path_of, region_of, post_in, post_of, end_of}
use Rattle.script_text.specs.Goals.{goal_of}
use Rattle.script_text.specs.Grammar.{IsObject, map_keys, base_keys, end_keys, bare_add_keys, masked_add_keys, remove_keys, move_keys, path_keys, region_keys, IsNumber, HasAddKeys, IsCaller, IsPathLine, IsRegionLine, IsPostLine, Line, map_line, base_line, post_line, end_line, IsLine}
use Rattle.script_text.proofs.GrammarValues.{map_some, then_some, under_some, under_is, whole_in-is, whole_in-from, caller-is, caller-from, number-is, number-from, name-is, name-from}
use Rattle.script_text.proofs.Members.{are_distinct, is_other, open_two, open_three, open_four, has_keys-object, has_keys-other, stand-object, get-object-none}
use Rattle.script_text.proofs.GrammarLines.{map-from, base-from, end-from, all_three_some, two_some, point-is, point-from, round-is, round-from, rectangle-is, rectangle-from}
use Rattle.script_text.proofs.GoalTable.{goal-is, goal-from}
use Rattle.script_text.proofs.FormTable.{some_has, form_found}

-- ---- add lines

-- the keys of the table with this one for the shape, with a mask or without one
abbrev keys_with : Bool → List ℕ → List (List ℕ)
keys_with masks key = codes "caller" ∷ codes "add" ∷ key ∷ map key_text (cond masks (Mask ∷ []) [])

-- the parts of an add line whose shape stands under this key
record AddParts (version callers caller id mask : ℕ) (key : List ℕ) (d : Data) : Type 0 where
  c : Data
  add : Data
  shape : Data
  keys : HasAddKeys version mask key c add shape d
  says_caller : IsCaller callers caller c
  says_number : IsNumber id add
  at : get key d ≡ Some shape

add_parts : (version callers caller id mask : ℕ) (key : List ℕ) (d : Data) → are_distinct (bare_add_keys key) ≡ true → are_distinct (masked_add_keys key) ≡ true
    → has_keys (keys_with (nat_le 2 version) key) d ≡ true → under (whole_below callers) (codes "caller") d ≡ Some caller
    → under obstruction_number (codes "add") d ≡ Some id → mask_of version d ≡ Some mask → AddParts version callers caller id mask key d
unfolding mask_of
add_parts version callers caller id mask key d short long has said number masked = by_version (nat_le 2 version) refl has masked
  where
    by_version : (b : Bool) → nat_le 2 version ≡ b → has_keys (keys_with b key) d ≡ true
        → cond b (under (whole_in 0 65535) (codes "mask") d) (Some 65535) ≡ Some mask → AddParts version callers caller id mask key d
    by_version true old h m =
        let o = open_four (codes "caller") (codes "add") key (codes "mask") d long h in
        let bits = whole_in-is 0 65535 o.y mask (under_some (whole_in 0 65535) (codes "mask") d o.y mask o.fourth m) in
        record {
          c = o.v;
          add = o.w;
          shape = o.x;
          keys = inr (leb-true 2 version old, (o.y, o.is, bits.0, bits.2));
          says_caller = caller-is callers o.v caller (under_some (whole_below callers) (codes "caller") d o.v caller o.first said);
          says_number = number-is o.w id (under_some obstruction_number (codes "add") d o.w id o.second number);
          at = o.third;
        }
    by_version false old h m =
        let o = open_three (codes "caller") (codes "add") key d short h in
        record {
          c = o.v;
          add = o.w;
          shape = o.x;
          keys = inl (leb-false 2 version old, (cc), o.is);
          says_caller = caller-is callers o.v caller (under_some (whole_below callers) (codes "caller") d o.v caller o.first said);
          says_number = number-is o.w id (under_some obstruction_number (codes "add") d o.w id o.second number);
          at = o.third;
        }

-- what is found in an add line
record AddFound (version mask : ℕ) (key : List ℕ) (c add shape d : Data) : Type 0 where
  has : has_keys (keys_with (nat_le 2 version) key) d ≡ true
  first : get (codes "caller") d ≡ Some c
  second : get (codes "add") d ≡ Some add
  third : get key d ≡ Some shape
  bits : mask_of version d ≡ Some mask

add_found : (version mask : ℕ) (key : List ℕ) (c add shape d : Data) → are_distinct (bare_add_keys key) ≡ true → are_distinct (masked_add_keys key) ≡ true
    → HasAddKeys version mask key c add shape d → AddFound version mask key c add shape d
unfolding mask_of
add_found version mask key c add shape d short long (inl h) =
    let values = c ∷ add ∷ shape ∷ [] in let at = stand-object (bare_add_keys key) values d short h.2 in
    let old : nat_le 2 version ≡ false = lt-leb 2 version h.0 in record {
      has = ap (λ b. has_keys (keys_with b key) d) old ∙ has_keys-object (bare_add_keys key) values d short h.2;
      first = at.0;
      second = at.1.0;
      third = at.1.1.0;
      bits = cond-false (nat_le 2 version) (under (whole_in 0 65535) (codes "mask") d) (Some 65535) old ∙ ap Some (sym h.1);
    }
add_found version mask key c add shape d short long (inr h) =
    let bits = h.1 in
    let values = c ∷ add ∷ shape ∷ bits.0 ∷ [] in let at = stand-object (masked_add_keys key) values d long bits.1 in
    let new : nat_le 2 version ≡ true = le-leb 2 version h.0 in record {
      has = ap (λ b. has_keys (keys_with b key) d) new ∙ has_keys-object (masked_add_keys key) values d long bits.1;
      first = at.0;
      second = at.1.0;
      third = at.1.1.0;
      bits = cond-true (nat_le 2 version) (under (whole_in 0 65535) (codes "mask") d) (Some 65535) new
          ∙ under_is (whole_in 0 65535) (codes "mask") d bits.0 mask at.1.1.1.0 (whole_in-from 0 65535 bits.0 mask bits.2 (omega arith) bits.3);
    }

abbrev made_add : ℕ × Shape × ℕ → Edit
made_add parts = let o : Obstruction = record { shape = parts.1; mask = parts.2 } in Add parts.0 o

-- what an add line says, and the three parts of it
record AddSaid (shape : Option Shape) (version : ℕ) (d : Data) (post : Edit) : Type 0 where
  id : ℕ
  made : Shape
  mask : ℕ
  is : made_add (id, made, mask) ≡ post
  number : under obstruction_number (codes "add") d ≡ Some id
  shaped : shape ≡ Some made
  masked : mask_of version d ≡ Some mask

add_said : (shape : Option Shape) (version : ℕ) (d : Data) (post : Edit) → add_of version shape d ≡ Some post → AddSaid shape version d post
unfolding add_of
add_said shape version d post e =
    let found = map_some made_add (all_three (under obstruction_number (codes "add") d) shape (mask_of version d)) post e in
    let three = all_three_some (under obstruction_number (codes "add") d) shape (mask_of version d) found.0 found.1 in
    record { id = found.0.0; made = found.0.1; mask = found.0.2; is = found.2; number = three.0; shaped = three.1; masked = three.2 }

unit-is : (version callers caller : ℕ) (d : Data) (post : Edit) → has_keys (keys_with (nat_le 2 version) (codes "unit")) d ≡ true
    → under (whole_below callers) (codes "caller") d ≡ Some caller → add_of version (unit_of d) d ≡ Some post → IsPostLine version callers caller (Edits post) d
unit-is version callers caller d post has who e =
    let said = add_said (unit_of d) version d post e in
    let made = map_some (λ u. UnitShape u.0 u.1 u.2) (under round_of (codes "unit") d) said.made said.shaped in
    let p = add_parts version callers caller said.id said.mask (codes "unit") d refl refl has who said.number said.masked in
    let Is : Edit → Type 0 = λ q. IsPostLine version callers caller (Edits q) d in
    let Shaped : Shape → Type 0 = λ s. IsPostLine version callers caller (Edits (Add said.id (record { shape = s; mask = said.mask }))) d in
    let shaped : Shaped said.made = subst Shaped made.2 (
      p.c,
      p.add,
      p.shape,
      p.keys,
      p.says_caller,
      p.says_number,
      round-is p.shape made.0 (under_some round_of (codes "unit") d p.shape made.0 p.at made.1),
    ) in subst Is said.is shaped

square-is : (version callers caller : ℕ) (d : Data) (post : Edit) → has_keys (keys_with (nat_le 2 version) (codes "square")) d ≡ true
    → under (whole_below callers) (codes "caller") d ≡ Some caller → add_of version (square_of d) d ≡ Some post → IsPostLine version callers caller (Edits post) d
square-is version callers caller d post has who e =
    let said = add_said (square_of d) version d post e in
    let made = map_some SquareShape (under rectangle_of (codes "square") d) said.made said.shaped in
    let p = add_parts version callers caller said.id said.mask (codes "square") d refl refl has who said.number said.masked in
    let Is : Edit → Type 0 = λ q. IsPostLine version callers caller (Edits q) d in
    let Shaped : Shape → Type 0 = λ s. IsPostLine version callers caller (Edits (Add said.id (record { shape = s; mask = said.mask }))) d in
    let shaped : Shaped said.made = subst Shaped made.2 (
      p.c,
      p.add,
      p.shape,
      p.keys,
      p.says_caller,
      p.says_number,
      rectangle-is p.shape made.0 (under_some rectangle_of (codes "square") d p.shape made.0 p.at made.1),
    ) in subst Is said.is shaped

-- the caller, the form and the post that a value gives
record Gives (version callers caller : ℕ) (post : Post) (d : Data) (f : Form) : Type 0 where
  who : under (whole_below callers) (codes "caller") d ≡ Some caller
  has : has_form version d f ≡ true
  post_is : post_in version d f ≡ Some post

added : (version id mask : ℕ) (shape : Option Shape) (made : Shape) (d add : Data) → get (codes "add") d ≡ Some add → IsNumber id add → shape ≡ Some made
    → mask_of version d ≡ Some mask → option_map Edits (add_of version shape d) ≡ Some (Edits (Add id (record { shape = made; mask = mask })))
unfolding add_of
added version id mask shape made d add second says_number shaped bits =
    let number = under_is obstruction_number (codes "add") d add id second (number-from add id says_number) in
    ap (λ o. option_map Edits (option_map made_add (all_three o shape (mask_of version d)))) number
    ∙ ap (λ o. option_map Edits (option_map made_add (all_three (Some id) o (mask_of version d)))) shaped
    ∙ ap (λ o. option_map Edits (option_map made_add (all_three (Some id) (Some made) o))) bits

-- the form of an add line with this shape
abbrev add_form : Shape → Form
add_form (UnitShape x z half) = form.AddUnit
add_form (SquareShape r) = form.AddSquare

add-from : (version callers caller id mask : ℕ) (shape : Shape) (d : Data)
    → IsPostLine version callers caller (Edits (Add id (record { shape = shape; mask = mask }))) d
    → Gives version callers caller (Edits (Add id (record { shape = shape; mask = mask }))) d (add_form shape)
add-from version callers caller id mask (UnitShape x z half) d h =
    let f = add_found version mask (codes "unit") h.0 h.1 h.2 d refl refl h.3 in
    let shaped : unit_of d ≡ Some (UnitShape x z half) = ap (option_map (λ u. UnitShape u.0 u.1 u.2)) (under_is round_of (codes "unit") d h.2 (x, z, half) f.third (round-from h.2 x z half h.6)) in
    record {
      who = under_is (whole_below callers) (codes "caller") d h.0 caller f.first (caller-from callers h.0 caller h.4);
      has = f.has;
      post_is = added version id mask (unit_of d) (UnitShape x z half) d h.1 f.second h.5 shaped f.bits;
    }
add-from version callers caller id mask (SquareShape r) d h =
    let f = add_found version mask (codes "square") h.0 h.1 h.2 d refl refl h.3 in
    let shaped : square_of d ≡ Some (SquareShape r) = ap (option_map SquareShape) (under_is rectangle_of (codes "square") d h.2 r f.third (rectangle-from h.2 r h.6)) in
    record {
      who = under_is (whole_below callers) (codes "caller") d h.0 caller f.first (caller-from callers h.0 caller h.4);
      has = f.has;
      post_is = added version id mask (square_of d) (SquareShape r) d h.1 f.second h.5 shaped f.bits;
    }

-- ---- the other post lines

remove-is : (version callers caller : ℕ) (d : Data) (post : Edit) → has_keys remove_keys d ≡ true → under (whole_below callers) (codes "caller") d ≡ Some caller
    → remove_of d ≡ Some post → IsPostLine version callers caller (Edits post) d
unfolding remove_of
remove-is version callers caller d post has said e =
    let o = open_two (codes "caller") (codes "remove") d refl has in
    let found = map_some Remove (under obstruction_number (codes "remove") d) post e in
    let Is : Edit → Type 0 = λ p. IsPostLine version callers caller (Edits p) d in
    subst Is found.2 (
      o.v,
      o.w,
      o.is,
      caller-is callers o.v caller (under_some (whole_below callers) (codes "caller") d o.v caller o.first said),
      number-is o.w found.0 (under_some obstruction_number (codes "remove") d o.w found.0 o.second found.1),
    )

move-is : (version callers caller : ℕ) (d : Data) (post : Edit) → (nat_le 3 version && has_keys move_keys d) ≡ true
    → under (whole_below callers) (codes "caller") d ≡ Some caller → move_of d ≡ Some post → IsPostLine version callers caller (Edits post) d
unfolding move_of
move-is version callers caller d post has said e =
    let make = λ (parts : ℕ × (ℤ × ℤ)). Move parts.0 parts.1.0 parts.1.1 in
    let number = under obstruction_number (codes "move") d in let to = under point_of (codes "to") d in
    let tests = and_parts (nat_le 3 version) (has_keys move_keys d) has in
    let o = open_three (codes "caller") (codes "move") (codes "to") d refl tests.1 in
    let found = map_some make (both number to) post e in let parts = found.0 in
    let two = two_some number to parts found.1 in
    let Is : Edit → Type 0 = λ p. IsPostLine version callers caller (Edits p) d in
    subst Is found.2 (
      o.v,
      o.w,
      o.x,
      o.is,
      caller-is callers o.v caller (under_some (whole_below callers) (codes "caller") d o.v caller o.first said),
      number-is o.w parts.0 (under_some obstruction_number (codes "move") d o.w parts.0 o.second two.0),
      point-is o.x parts.1 (under_some point_of (codes "to") d o.x parts.1 o.third two.1),
      leb-true 3 version tests.0,
    )

-- the requests of what was read
abbrev path_by : List ℕ × (ℤ × ℤ) × GoalSpec → Request
path_by parts = Path (record { class = parts.0; x = parts.1.0; z = parts.1.1; goal = parts.2 })

abbrev region_by : List ℕ × (ℤ × ℤ) → Request
region_by parts = Region (record { class = parts.0; x = parts.1.0; z = parts.1.1 })

path-is : (version callers caller : ℕ) (d : Data) (post : Request) → has_keys path_keys d ≡ true → under (whole_below callers) (codes "caller") d ≡ Some caller
    → path_of version d ≡ Some post → IsPostLine version callers caller (Asks post) d
unfolding path_of
path-is version callers caller d post has said e =
    let name = under class_name (codes "path") d in let from = under point_of (codes "from") d in let goal = under (goal_of version) (codes "goal") d in
    let o = open_four (codes "caller") (codes "path") (codes "from") (codes "goal") d refl has in
    let found = map_some path_by (all_three name from goal) post e in let parts = found.0 in
    let three = all_three_some name from goal parts found.1 in
    let Is : Request → Type 0 = λ p. IsPostLine version callers caller (Asks p) d in
    subst Is found.2 (record {
      who = o.v;
      path = o.w;
      from = o.x;
      to = o.y;
      keys = o.is;
      says_caller = caller-is callers o.v caller (under_some (whole_below callers) (codes "caller") d o.v caller o.first said);
      says_class = name-is o.w parts.0 (under_some class_name (codes "path") d o.w parts.0 o.second three.0);
      says_start = point-is o.x parts.1 (under_some point_of (codes "from") d o.x parts.1 o.third three.1);
      says_goal = goal-is version o.y parts.2 (under_some (goal_of version) (codes "goal") d o.y parts.2 o.fourth three.2);
    })

region-is : (version callers caller : ℕ) (d : Data) (post : Request) → has_keys region_keys d ≡ true → under (whole_below callers) (codes "caller") d ≡ Some caller
    → region_of d ≡ Some post → IsPostLine version callers caller (Asks post) d
unfolding region_of
region-is version callers caller d post has said e =
    let name = under class_name (codes "region") d in let place = under point_of (codes "at") d in
    let o = open_three (codes "caller") (codes "region") (codes "at") d refl has in
    let found = map_some region_by (both name place) post e in let parts = found.0 in
    let two = two_some name place parts found.1 in
    let Is : Request → Type 0 = λ p. IsPostLine version callers caller (Asks p) d in
    subst Is found.2 (record {
      who = o.v;
      region = o.w;
      place = o.x;
      keys = o.is;
      says_caller = caller-is callers o.v caller (under_some (whole_below callers) (codes "caller") d o.v caller o.first said);
      says_class = name-is o.w parts.0 (under_some class_name (codes "region") d o.w parts.0 o.second two.0);
      says_place = point-is o.x parts.1 (under_some point_of (codes "at") d o.x parts.1 o.third two.1);
    })

remove-from : (version callers caller id : ℕ) (d : Data) → IsPostLine version callers caller (Edits (Remove id)) d → Gives version callers caller (Edits (Remove id)) d form.Remove
unfolding remove_of
remove-from version callers caller id d h =
    let values = h.0 ∷ h.1 ∷ [] in
    let at = stand-object remove_keys values d refl h.2 in
    record {
      who = under_is (whole_below callers) (codes "caller") d h.0 caller at.0 (caller-from callers h.0 caller h.3);
      has = has_keys-object remove_keys values d refl h.2;
      post_is = ap (λ o. option_map Edits (option_map Remove o)) (under_is obstruction_number (codes "remove") d h.1 id at.1.0 (number-from h.1 id h.4));
    }

move-from : (version callers caller id : ℕ) (x z : ℤ) (d : Data) → IsPostLine version callers caller (Edits (Move id x z)) d
    → Gives version callers caller (Edits (Move id x z)) d form.Move
unfolding move_of
move-from version callers caller id x z d h =
    let make = λ (parts : ℕ × (ℤ × ℤ)). Move parts.0 parts.1.0 parts.1.1 in
    let to = under point_of (codes "to") d in
    let values = h.0 ∷ h.1 ∷ h.2 ∷ [] in
    let at = stand-object move_keys values d refl h.3 in
    record {
      who = under_is (whole_below callers) (codes "caller") d h.0 caller at.0 (caller-from callers h.0 caller h.4);
      has = and_from (nat_le 3 version) (has_keys move_keys d) (le-leb 3 version h.7) (has_keys-object move_keys values d refl h.3);
      post_is = ap (λ o. option_map Edits (option_map make (both o to))) (under_is obstruction_number (codes "move") d h.1 id at.1.0 (number-from h.1 id h.5))
          ∙ ap (λ o. option_map Edits (option_map make (both (Some id) o))) (under_is point_of (codes "to") d h.2 (x, z) at.1.1.0 (point-from h.2 x z h.6));
    }

path-from : (version callers caller : ℕ) (request : PathRequest) (d : Data) → IsPathLine version callers caller request d
    → Gives version callers caller (Asks (Path request)) d form.Path
unfolding path_of
path-from version callers caller request d h =
    let class = request.class in let x = request.x in let z = request.z in let goal = request.goal in
    let from = under point_of (codes "from") d in let to = under (goal_of version) (codes "goal") d in
    let values = h.who ∷ h.path ∷ h.from ∷ h.to ∷ [] in
    let at = stand-object path_keys values d refl h.keys in
    record {
      who = under_is (whole_below callers) (codes "caller") d h.who caller at.0 (caller-from callers h.who caller h.says_caller);
      has = has_keys-object path_keys values d refl h.keys;
      post_is = ap (λ o. option_map Asks (option_map path_by (all_three o from to))) (under_is class_name (codes "path") d h.path class at.1.0 (name-from h.path class h.says_class))
          ∙ ap (λ o. option_map Asks (option_map path_by (all_three (Some class) o to))) (under_is point_of (codes "from") d h.from (x, z) at.1.1.0 (point-from h.from x z h.says_start))
          ∙ ap (λ o. option_map Asks (option_map path_by (all_three (Some class) (Some (x, z)) o)))
          (under_is (goal_of version) (codes "goal") d h.to goal at.1.1.1.0 (goal-from version h.to goal h.says_goal));
    }

region-from : (version callers caller : ℕ) (query : RegionQuery) (d : Data) → IsRegionLine callers caller query d
    → Gives version callers caller (Asks (Region query)) d form.Region
unfolding region_of
region-from version callers caller query d h =
    let class = query.class in let x = query.x in let z = query.z in
    let place = under point_of (codes "at") d in
    let values = h.who ∷ h.region ∷ h.place ∷ [] in
    let at = stand-object region_keys values d refl h.keys in
    record {
      who = under_is (whole_below callers) (codes "caller") d h.who caller at.0 (caller-from callers h.who caller h.says_caller);
      has = has_keys-object region_keys values d refl h.keys;
      post_is = ap (λ o. option_map Asks (option_map region_by (both o place))) (under_is class_name (codes "region") d h.region class at.1.0 (name-from h.region class h.says_class))
          ∙ ap (λ o. option_map Asks (option_map region_by (both (Some class) o))) (under_is point_of (codes "at") d h.place (x, z) at.1.1.0 (point-from h.place x z h.says_place));
    }

-- ---- all post lines

-- the form of a post
abbrev form_for : Post → Form
form_for (Edits (Add id o)) = add_form o.shape
form_for (Edits (Remove id)) = form.Remove
form_for (Edits (Move id x z)) = form.Move
form_for (Asks (Path request)) = form.Path
form_for (Asks (Region query)) = form.Region

gives : (version callers caller : ℕ) (post : Post) (d : Data) → IsPostLine version callers caller post d → Gives version callers caller post d (form_for post)
gives version callers caller (Edits (Add id o)) d h = add-from version callers caller id o.mask o.shape d h
gives version callers caller (Edits (Remove id)) d h = remove-from version callers caller id d h
gives version callers caller (Edits (Move id x z)) d h = move-from version callers caller id x z d h
gives version callers caller (Asks (Path request)) d h = path-from version callers caller request d h
gives version callers caller (Asks (Region query)) d h = region-from version callers caller query d h

edit-is : (version callers caller : ℕ) (d : Data) (o : Option Edit) (post : Post) → option_map Edits o ≡ Some post
    → ((edit : Edit) → o ≡ Some edit → IsPostLine version callers caller (Edits edit) d) → IsPostLine version callers caller post d
edit-is version callers caller d o post e is =
    let found = map_some Edits o post e in
    let Is : Post → Type 0 = λ p. IsPostLine version callers caller p d in subst Is found.2 (is found.0 found.1)

ask-is : (version callers caller : ℕ) (d : Data) (o : Option Request) (post : Post) → option_map Asks o ≡ Some post
    → ((ask : Request) → o ≡ Some ask → IsPostLine version callers caller (Asks ask) d) → IsPostLine version callers caller post d
ask-is version callers caller d o post e is =
    let found = map_some Asks o post e in
    let Is : Post → Type 0 = λ p. IsPostLine version callers caller p d in subst Is found.2 (is found.0 found.1)

-- a value with the keys of a form, and the post that it gives
in-is : (version callers caller : ℕ) (d : Data) (f : Form) (post : Post) → has_form version d f ≡ true → under (whole_below callers) (codes "caller") d ≡ Some caller
    → post_in version d f ≡ Some post → IsPostLine version callers caller post d
in-is version callers caller d form.AddUnit post has said e =
    edit-is version callers caller d (add_of version (unit_of d) d) post e (λ edit is. unit-is version callers caller d edit has said is)
in-is version callers caller d form.AddSquare post has said e =
    edit-is version callers caller d (add_of version (square_of d) d) post e (λ edit is. square-is version callers caller d edit has said is)
in-is version callers caller d form.Remove post has said e =
    edit-is version callers caller d (remove_of d) post e (λ edit is. remove-is version callers caller d edit has said is)
in-is version callers caller d form.Move post has said e =
    edit-is version callers caller d (move_of d) post e (λ edit is. move-is version callers caller d edit has said is)
in-is version callers caller d form.Path post has said e =
    ask-is version callers caller d (path_of version d) post e (λ ask is. path-is version callers caller d ask has said is)
in-is version callers caller d form.Region post has said e =
    ask-is version callers caller d (region_of d) post e (λ ask is. region-is version callers caller d ask has said is)
in-is version callers caller d form.Map post has said e = absurd (cc)
in-is version callers caller d form.Base post has said e = absurd (cc)
in-is version callers caller d form.End post has said e = absurd (cc)

abbrev said_by : ℕ × Post → CallerPost
said_by parts = record { caller = parts.0; post = parts.1 }

pub post-is : (version callers : ℕ) (d : Data) (said : CallerPost) → post_of version callers d ≡ Some said → IsPostLine version callers said.caller said.post d
unfolding post_of
post-is version callers d said e =
    let caller = under (whole_below callers) (codes "caller") d in
    let post = option_and_then (post_in version d) (form_of version d) in
    let found = map_some said_by (both caller post) said e in let parts = found.0 in
    let two = two_some caller post parts found.1 in
    let in_form = then_some (post_in version d) (form_of version d) parts.1 two.1 in
    let Is : CallerPost → Type 0 = λ s. IsPostLine version callers s.caller s.post d in
    subst Is found.2 (in-is version callers parts.0 d in_form.0 parts.1 (some_has version d in_form.0 in_form.1) two.0 in_form.2)

pub post-from : (version callers : ℕ) (d : Data) (said : CallerPost) → IsPostLine version callers said.caller said.post d → post_of version callers d ≡ Some said
unfolding post_of
post-from version callers d said h =
    let given = gives version callers said.caller said.post d h in
    ap (λ o. option_map said_by (both o (option_and_then (post_in version d) (form_of version d)))) given.who
    ∙ ap (λ o. option_map said_by (both (Some said.caller) (option_and_then (post_in version d) o))) (form_found version d (form_for said.post) given.has)
    ∙ ap (λ o. option_map said_by (both (Some said.caller) o)) given.post_is

-- ---- one form

caller_there : (version callers : ℕ) (said : CallerPost) (d : Data) → IsPostLine version callers said.caller said.post d → get (codes "caller") d ≡ None → ⊥
caller_there version callers said d h none =
    let both_give = gives version callers said.caller said.post d h in
    let nothing : under (whole_below callers) (codes "caller") d ≡ None = ap (option_and_then (whole_below callers)) none in
    let something = both_give.who in absurd (cc)

same_some : {A : Type 0} (o : Option A) (x y : A) → o ≡ Some x → o ≡ Some y → x ≡ y
same_some o x y e f = cc

-- two objects with a key that only the second has
clash : (keys others : List (List ℕ)) (vs ws : List Data) (d : Data) (key : List ℕ) → are_distinct others ≡ true → is_other key keys ≡ true
    → is_other key others ≡ false → IsObject keys vs d → IsObject others ws d → ⊥
clash keys others vs ws d key distinct apart there is other =
    let has = has_keys-object others ws d distinct other in let lacks_it = has_keys-other keys others vs d key is apart there in absurd (cc)

pub one_line : (version callers : ℕ) (size : Size) (d : Data) (a b : Line) → IsLine version callers size a d → IsLine version callers size b d → a ≡ b
one_line version callers size d (map_line m) (map_line n) h k = ap map_line (same_some (map_of d) m n (map-from d m h) (map-from d n k))
one_line version callers size d (map_line m) (base_line rects) h k =
    absurd (clash map_keys base_keys (h.version ∷ h.size ∷ h.callers ∷ h.classes ∷ []) (k.0 ∷ []) d (codes "base") refl refl refl h.keys k.1)
one_line version callers size d (map_line m) (post_line said) h k =
    absurd (caller_there version callers said d k (get-object-none map_keys (h.version ∷ h.size ∷ h.callers ∷ h.classes ∷ []) d (codes "caller") h.keys refl))
one_line version callers size d (map_line m) (end_line turn) h k =
    absurd (clash map_keys end_keys (h.version ∷ h.size ∷ h.callers ∷ h.classes ∷ []) (k.0 ∷ []) d (codes "end") refl refl refl h.keys k.1)
one_line version callers size d (base_line rects) (map_line m) h k =
    absurd (clash map_keys base_keys (k.version ∷ k.size ∷ k.callers ∷ k.classes ∷ []) (h.0 ∷ []) d (codes "base") refl refl refl k.keys h.1)
one_line version callers size d (base_line rects) (base_line others) h k = ap base_line (same_some (base_of size d) rects others (base-from size d rects h) (base-from size d others k))
one_line version callers size d (base_line rects) (post_line said) h k =
    absurd (caller_there version callers said d k (get-object-none base_keys (h.0 ∷ []) d (codes "caller") h.1 refl))
one_line version callers size d (base_line rects) (end_line turn) h k =
    absurd (clash base_keys end_keys (h.0 ∷ []) (k.0 ∷ []) d (codes "end") refl refl refl h.1 k.1)
one_line version callers size d (post_line said) (map_line m) h k =
    absurd (caller_there version callers said d h (get-object-none map_keys (k.version ∷ k.size ∷ k.callers ∷ k.classes ∷ []) d (codes "caller") k.keys refl))
one_line version callers size d (post_line said) (base_line rects) h k =
    absurd (caller_there version callers said d h (get-object-none base_keys (k.0 ∷ []) d (codes "caller") k.1 refl))
one_line version callers size d (post_line said) (post_line other) h k =
    ap post_line (same_some (post_of version callers d) said other (post-from version callers d said h) (post-from version callers d other k))
one_line version callers size d (post_line said) (end_line turn) h k =
    absurd (caller_there version callers said d h (get-object-none end_keys (k.0 ∷ []) d (codes "caller") k.1 refl))
one_line version callers size d (end_line turn) (map_line m) h k =
    absurd (clash map_keys end_keys (k.version ∷ k.size ∷ k.callers ∷ k.classes ∷ []) (h.0 ∷ []) d (codes "end") refl refl refl k.keys h.1)
one_line version callers size d (end_line turn) (base_line rects) h k =
    absurd (clash base_keys end_keys (k.0 ∷ []) (h.0 ∷ []) d (codes "end") refl refl refl k.1 h.1)
one_line version callers size d (end_line turn) (post_line said) h k =
    absurd (caller_there version callers said d k (get-object-none end_keys (h.0 ∷ []) d (codes "caller") h.1 refl))
one_line version callers size d (end_line turn) (end_line other) h k = ap end_line (same_some (end_of d) turn other (end-from d turn h) (end-from d other k))
