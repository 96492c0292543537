use Rattle.std.proofs.Common.{
  ◌≡◌,
  ◌⊎◌,
  ◌∙◌,
  ◌+◌,
  ◌&&◌,
  ◌||◌,
  ℕ,
  Bool,
  true,
  false,
  not,
  List,
  [],
  ◌∷◌,
  ◌++◌,
  Option,
  None,
  Some,
  Ok,
  Err,
  ap,
  arith,
  if◌then◌else◌,
  inl,
  inr,
  is_some,
  length,
  refl,
  sym,
}
use Rattle.std.specs.Prelude.{option_copied, option_to_list, IsTrue, String}
use Rattle.std.specs.Borrow.{Bor}
use Rattle.claxon_command_line.specs.Arguments.{end_of_options}
use Rattle.claxon_command_line.specs.declared.arguments.Notice.{Notice}
use Rattle.claxon_verdict.specs.Options.{
  AddOptions,
  AfterEnd,
  Elsewhere,
  AreFiles,
  AreRight,
  Argument,
  AsksFor,
  FilesAre,
  FilesFrom,
  FirstIsWrong,
  Flag,
  IsPlaces,
  IsRight,
  IsRefused,
  Operand,
  Places,
  arguments_at,
  arguments_of,
  default_options,
  is_flag,
  lists_of,
  more_places_of,
  operands_of,
}
use Rattle.claxon_verdict.specs.declared.options.NamedFiles.{NamedFiles}
use Rattle.claxon_verdict.specs.declared.options.NamedFiles.TheVariants.{
  List as NamedInList,
  Operands as NamedByOperands,
}
use Rattle.claxon_verdict.specs.declared.options.Options.{Options}

-- No word is left, or the one that ends the options.
pub none_left : (has_options : Bool) (words : List (List ℕ))
    → (words ≡ []) ⊎ ((has_options ≡ true) × (words ≡ end_of_options ∷ []))
    → arguments_at (if has_options then Elsewhere else AfterEnd) words ≡ []
none_left true words (inl e) = rw e refl
none_left true words (inr e) = rw e.1 refl
none_left false words (inl e) = rw e refl
none_left false words (inr e) = absurd cc

-- What a loop over arguments keeps: what holds of all of them follows from the same of those that
-- are left, where this list was named before, with these options and so many operands.
pub record GoesOn (all left : List Argument) (list : Option (Bor (List ℕ))) (options : Options)
    (count : ℕ) : Type 0 where
  pub right : AreRight (is_some list) left → AreRight false all
  pub wrong : (notice : Notice) → FirstIsWrong (is_some list) left notice
      → FirstIsWrong false all notice
  pub adds : (new : Options) → AddOptions left options new → AddOptions all default_options new
  pub lists : option_to_list (option_copied list) ++ lists_of left ≡ lists_of all
  pub operands : count + length (operands_of left) ≡ length (operands_of all)

pub goes_on : (all : List Argument) → GoesOn all all None default_options 0
goes_on all = record {
  right = λ r. r;
  wrong = λ notice w. w;
  adds = λ new a. a;
  lists = refl;
  operands = omega arith;
}

pub after_operand : {all left : List Argument} {list : Option (Bor (List ℕ))} {options : Options}
    {count : ℕ} {name : List ℕ} → GoesOn all (Operand name ∷ left) list options count
    → GoesOn all left list options (count + 1)
after_operand {left = left} g = record {
  right = λ r. g.right (tt, r);
  wrong = λ notice w. g.wrong notice (inr (tt, w));
  adds = λ new a. g.adds new (record {
    md5 = a.md5;
    is_brief = a.is_brief;
    is_json = a.is_json;
    has_summary = a.has_summary;
    is_quiet = a.is_quiet;
    is_recursive = a.is_recursive;
    more_places = a.more_places;
  });
  lists = g.lists;
  operands = omega (arith, g.operands);
}

or_more : (p q r s t : Bool) → s ≡ (p || (q || false)) → t ≡ (s || r) → t ≡ (p || (q || r))
or_more true q r s t e f = f ∙ ap (λ x. x || r) e
or_more false true r s t e f = f ∙ ap (λ x. x || r) e
or_more false false r s t e f = f ∙ ap (λ x. x || r) e

and_more : (p q r s t : Bool) → s ≡ (p && not (q || false)) → t ≡ (s && not r)
    → t ≡ (p && not (q || r))
and_more true true r s t e f = f ∙ ap (λ x. x && not r) e
and_more true false r s t e f = f ∙ ap (λ x. x && not r) e
and_more false q r s t e f = f ∙ ap (λ x. x && not r) e

pub after_flag : {all left : List Argument} {list : Option (Bor (List ℕ))} {options new : Options}
    {count : ℕ} {option : List ℕ} → GoesOn all (Flag option ∷ left) list options count
    → IsTrue (is_flag option) → AddOptions (Flag option ∷ []) options new
    → GoesOn all left list new count
after_flag {left = left} g is b = record {
  right = λ r. g.right (is, r);
  wrong = λ notice w. g.wrong notice (inr (is, w));
  adds = λ new a. g.adds new (record {
    md5 = and_more _ _ _ _ _ b.md5 a.md5;
    is_brief = or_more _ _ _ _ _ b.is_brief a.is_brief;
    is_json = or_more _ _ _ _ _ b.is_json a.is_json;
    has_summary = or_more _ _ _ _ _ b.has_summary a.has_summary;
    is_quiet = or_more _ _ _ _ _ b.is_quiet a.is_quiet;
    is_recursive = or_more _ _ _ _ _ b.is_recursive a.is_recursive;
    more_places = a.more_places ∙ ap (λ n. more_places_of n left) b.more_places;
  });
  lists = g.lists;
  operands = g.operands;
}

pub after_list : {all left : List Argument} (list : Option (Bor (List ℕ))) {options : Options}
    {count : ℕ} (value : Option (List ℕ)) (name : Bor (List ℕ)) (has_list : Bool)
    → GoesOn all (FilesFrom value ∷ left) list options count → has_list ≡ is_some list
    → IsRight has_list (FilesFrom value) → value ≡ Some name.now
    → GoesOn all left (Some name) options count
after_list list None name has_list g h is e = absurd is
after_list (Some other) (Some word) name has_list g h is e = let t = is.0 in absurd cc
after_list None (Some word) name has_list g h is e = record {
  right = λ r. g.right ((refl, is.1), r);
  wrong = λ notice w. g.wrong notice (inr ((refl, is.1), w));
  adds = λ new a. g.adds new (record {
    md5 = a.md5;
    is_brief = a.is_brief;
    is_json = a.is_json;
    has_summary = a.has_summary;
    is_quiet = a.is_quiet;
    is_recursive = a.is_recursive;
    more_places = a.more_places;
  });
  lists = let same : word ≡ name.now = cc in rw (← same) g.lists;
  operands = g.operands;
}

pub after_places : {all left : List Argument} {list : Option (Bor (List ℕ))} (options : Options)
    {count : ℕ} (number : Option (List ℕ)) (more : ℕ)
    → GoesOn all (Places number ∷ left) list options count
    → IsPlaces number → more ≡ more_places_of 0 (Places number ∷ [])
    → GoesOn all left list (record options { more_places = more }) count
after_places options None more g is e = absurd is
after_places {left = left} options (Some word) more g is e = record {
  right = λ r. g.right (is, r);
  wrong = λ notice w. g.wrong notice (inr (is, w));
  adds = λ new a. g.adds new (record {
    md5 = a.md5;
    is_brief = a.is_brief;
    is_json = a.is_json;
    has_summary = a.has_summary;
    is_quiet = a.is_quiet;
    is_recursive = a.is_recursive;
    more_places = a.more_places ∙ ap (λ n. more_places_of n left) e;
  });
  lists = g.lists;
  operands = g.operands;
}

or_none : (p : Bool) → p ≡ (p || false)
or_none true = refl
or_none false = refl

and_all : (p : Bool) → p ≡ (p && true)
and_all true = refl
and_all false = refl

adds_none : (options : Options) → AddOptions [] options options
adds_none options = record {
  md5 = and_all _;
  is_brief = or_none _;
  is_json = or_none _;
  has_summary = or_none _;
  is_quiet = or_none _;
  is_recursive = or_none _;
  more_places = refl;
}

no_items : {A : Type 0} (xs : List A) → length xs ≡ 0 → xs ≡ []
no_items [] e = refl
no_items (x ∷ xs) e = absurd (omega arith)

files_are : {A : Type 0} (words : List (String A)) (list : Option (Bor (List ℕ)))
    (options : Options) (count : ℕ) (files : NamedFiles)
    → GoesOn (arguments_of words) [] list options count
    → FilesAre words list count (Ok files)
    → AreFiles (lists_of (arguments_of words)) (operands_of (arguments_of words)) files
files_are words list options count (NamedInList name) g is =
    (sym g.lists ∙ rw is.0 refl, no_items _ (omega (arith, g.operands, is.1)))
files_are words list options count (NamedByOperands names) g is = (
  sym g.lists ∙ rw is.0 refl,
  is.3,
  omega (arith, g.operands, is.1),
  omega (arith, g.operands, is.2),
)

pub asks_for : {A : Type 0} (words : List (String A)) (list : Option (Bor (List ℕ)))
    (options : Options) (count : ℕ) (files : NamedFiles)
    → GoesOn (arguments_of words) [] list options count → FilesAre words list count (Ok files)
    → AsksFor (arguments_of words) (record { files = files; options = options })
asks_for words list options count files g is = record {
  right = g.right tt;
  files = files_are words list options count files g is;
  options = g.adds options (adds_none options);
}

pub refused : {A : Type 0} (words : List (String A)) (list : Option (Bor (List ℕ)))
    (options : Options) (count : ℕ) (notice : Notice)
    → GoesOn (arguments_of words) [] list options count → FilesAre words list count (Err notice)
    → IsRefused (arguments_of words) notice
refused words None options count notice g is =
    inr (g.right tt, inl (sym g.lists, no_items _ (omega (arith, g.operands, is.1))), is.0)
refused words (Some name) options count notice g is =
    inr (
      g.right tt,
      inr (omega (arith, sym (ap length g.lists)), omega (arith, g.operands, is.1)),
      is.0,
    )
