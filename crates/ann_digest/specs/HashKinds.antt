-- The hash functions that backends name.
use Rattle.std.specs.Prelude.{ℕ, ◌≡◌, Bool, if◌then◌else◌, bytes_eq, List, [], ◌∷◌, ◌++◌, codes, Option, Some, None, IsTrue}
use Rattle.md5.specs.Md5.{md5}
use Rattle.sha1.specs.Sha1.{sha1}
use Rattle.sha2.specs.Sha256.{sha224, sha256}
use Rattle.sha2.specs.Sha512.{sha384, sha512}
use Rattle.ann_digest.specs.declared.hash_kind.HashKind.{HashKind}
use Rattle.ann_digest.specs.declared.hash_kind.Naming.{Naming}
use Rattle.ann_digest.specs.declared.hash_kind.HashKind.TheVariants.{Md5, Sha1, Sha224, Sha256, Sha384, Sha512}

-- the backend that names a key by the digest alone
abbrev pub backend_of : HashKind → List ℕ
backend_of Md5 = codes "MD5"
backend_of Sha1 = codes "SHA1"
backend_of Sha224 = codes "SHA224"
backend_of Sha256 = codes "SHA256"
backend_of Sha384 = codes "SHA384"
backend_of Sha512 = codes "SHA512"

-- the digest of bytes
abbrev pub digest_by : HashKind → List ℕ → List ℕ
digest_by Md5 bytes = md5 bytes
digest_by Sha1 bytes = sha1 bytes
digest_by Sha224 bytes = sha224 bytes
digest_by Sha256 bytes = sha256 bytes
digest_by Sha384 bytes = sha384 bytes
digest_by Sha512 bytes = sha512 bytes

-- the kind whose backend this is
abbrev pub kind_of : List ℕ → Option HashKind
kind_of backend =
    if bytes_eq backend (codes "MD5") then Some Md5
    else if bytes_eq backend (codes "SHA1") then Some Sha1
    else if bytes_eq backend (codes "SHA224") then Some Sha224
    else if bytes_eq backend (codes "SHA256") then Some Sha256
    else if bytes_eq backend (codes "SHA384") then Some Sha384
    else if bytes_eq backend (codes "SHA512") then Some Sha512
    else None

-- the backend that names keys this way: an E follows the hash function where an extension may follow
abbrev pub naming_backend : Naming → List ℕ
naming_backend naming = backend_of naming.kind ++ (if naming.extended then codes "E" else [])

-- what may follow the digest in a name: nothing, or where allowed a rest that begins with a dot
abbrev pub IsRest : Bool → List ℕ → Type 0
IsRest extended [] = Unit {0}
IsRest extended (c ∷ rest) = IsTrue extended × (c ≡ 46)

-- the name is the text of the digest and such a rest
abbrev pub IsNamed : Bool → List ℕ → List ℕ → Type 0
IsNamed extended text name = (rest : List ℕ) × (name ≡ text ++ rest) × IsRest extended rest
