-- What borrowed parts of a message stand for (RFC 6733, 5.3 to 5.5).
use Rattle.std.specs.Prelude.{◌≡◌, ℕ, Some, List}
use Rattle.std.specs.List.{flat_map}
use Rattle.dm_wire.specs.declared.avp.Avp.{Avp}
use Rattle.dm_wire.specs.Members.{members}
use Rattle.dm_base.specs.Kinds.{application_ids, security_ids}
use Rattle.dm_base.specs.declared.caps_ref.CapsRef.{CapsRef}
use Rattle.dm_base.specs.declared.kind_ref.KindRef.{KindRef}
use Rattle.dm_base.specs.declared.kind_ref.KindRef.TheVariants as refs
use Rattle.dm_base.specs.declared.kind.Caps.{Caps}
use Rattle.dm_base.specs.declared.kind.Kind.{Kind}
use Rattle.dm_base.specs.declared.kind.Kind.TheVariants as kinds

-- the borrowed parts are those of these capabilities, whose ids the AVPs of the octets tell
pub record ShowsCaps (r : CapsRef) (caps : Caps) : Type 0 where
  pub avps : List Avp
  pub listed : members r.rest.now ≡ Some avps
  pub host : r.host.now ≡ caps.host
  pub realm : r.realm.now ≡ caps.realm
  pub applications : caps.applications ≡ flat_map application_ids avps
  pub security : caps.security ≡ flat_map security_ids avps

-- the borrowed kind stands for this one
abbrev pub ShowsKind : KindRef → Kind → Type 0
ShowsKind (refs.Cer r) (kinds.Cer caps) = ShowsCaps r caps
ShowsKind (refs.Cea code) (kinds.Cea other) = code ≡ other
ShowsKind refs.Dwr kinds.Dwr = Unit {0}
ShowsKind refs.Dwa kinds.Dwa = Unit {0}
ShowsKind (refs.Dpr cause) (kinds.Dpr other) = cause ≡ other
ShowsKind refs.Dpa kinds.Dpa = Unit {0}
ShowsKind refs.Other kinds.Other = Unit {0}
ShowsKind _ _ = ⊥

-- the capabilities, with the ids that these AVPs tell
abbrev pub caps_with : List Avp → CapsRef → Caps
caps_with l r =
    record {
      host = r.host.now;
      realm = r.realm.now;
      applications = flat_map application_ids l;
      security = flat_map security_ids l;
    }

-- the kind that stands there with these AVPs
abbrev pub kind_with : List Avp → KindRef → Kind
kind_with l (refs.Cer r) = kinds.Cer (caps_with l r)
kind_with l (refs.Cea code) = kinds.Cea code
kind_with l refs.Dwr = kinds.Dwr
kind_with l refs.Dwa = kinds.Dwa
kind_with l (refs.Dpr cause) = kinds.Dpr cause
kind_with l refs.Dpa = kinds.Dpa
kind_with l refs.Other = kinds.Other

-- the AVPs of capabilities lie in these octets
abbrev pub LiesIn : KindRef → List ℕ → Type 0
LiesIn (refs.Cer r) s = r.rest.now ≡ s
LiesIn _ s = Unit {0}
